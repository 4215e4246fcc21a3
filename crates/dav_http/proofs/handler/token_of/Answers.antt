use Rattle.std.proofs.Common.{None, Some, sym, subst}
use Rattle.std.specs.Option.{option_copied}
use Rattle.dav_http.specs.Steps.{IsTokenOf, missing}
use Rattle.dav_http.proofs.SentRequests.{token_granted, token_refused}
use Rattle.dav_http.proofs.handler.token_of.Goals as goal

pub returns-in_default : goal.returns-in_default
returns-in_default c = subst (λ t. IsTokenOf (option_copied t) None) (sym c.in_default.is) missing

pub returns-in-Ok : goal.returns-in-Ok
returns-in-Ok c = subst (λ t. IsTokenOf (option_copied t) (Some c.in-Ok.token)) (sym c.in-Some.is) (token_granted c.in-Some.text.now c.in-Ok.token c.in-Ok.ensures)

pub returns-in-Err-Refused : goal.returns-in-Err-Refused
returns-in-Err-Refused c =
    subst (λ t. IsTokenOf (option_copied t) None) (sym c.in-Some.is) (token_refused c.in-Some.text.now c.in-Err-Refused.field-0 c.in-Err-Refused.field-0-is c.in-Err-Refused.ensures)
