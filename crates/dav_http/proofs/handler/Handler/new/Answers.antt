use Rattle.std.proofs.Common.{ap, sym, subst, Some}
use Rattle.dav_http.specs.SentLaws.{IsSendableServer}
use Rattle.dav_http.proofs.SentSteps.{new_server}
use Rattle.dav_http.proofs.handler.Handler.new.Goals as goal

pub invariant_of-result : goal.invariant_of-result
invariant_of-result c =
    subst IsSendableServer (sym c.in_ok-handler.ensures.state) (new_server _ _ (ap (λ s. s.world) c.in_ok-fs.ensures) (ap (λ ls. Some ls) c.in_ok-ls.ensures))
