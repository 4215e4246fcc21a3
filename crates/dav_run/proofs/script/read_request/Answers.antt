use Rattle.std.proofs.Common.{sym, subst}
use Rattle.std.specs.Prelude.{Option, IsSomeAnd}
use Rattle.serde_json.specs.Data.{Data}
use Rattle.dav_run.specs.Script.{IsHeadText}
use Rattle.dav_run.specs.declared.script.ScriptError.TheVariants.{NotScript}
use Rattle.dav_run.proofs.Refusals.{handed_on}
use Rattle.dav_run.proofs.script.read_request.Goals as goal

pub returns-in_err-head-clause-none : goal.returns-in_err-head-clause-none
returns-in_err-head-clause-none c = λ e request is.
    let IsHeadOf : Option Data → Type 0 = λ o. IsSomeAnd o (λ head. IsHeadText head request.head) in
    let refused = handed_on c.from_residual-in_err-head.result c.in_err-head.field-0.0 NotScript c.from_residual-in_err-head.ensures.1 e in
    c.in_err-head.ensures.none refused request.head (subst IsHeadOf (sym c.in-Some.ensures) is.head)
