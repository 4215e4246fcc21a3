use Rattle.std.proofs.Common.{◌≡◌, refl, arith}
use Rattle.std.proofs.lemmas.Result.{err_from_is_err_and}
use Rattle.dav_headers.specs.IfWritten.{SaysCondition}
use Rattle.dav_headers.specs.IfTexts.{condition_view}
use Rattle.dav_headers.specs.IfView.{condition_value}
use Rattle.dav_headers.specs.declared.errors.HeaderError.TheVariants.{Invalid}
use Rattle.dav_headers.proofs.IfListLemmas.{same_error}
use Rattle.dav_headers.proofs.ReadingLemmas.{none_read}
use Rattle.dav_headers.proofs.IfMeaningLemmas.{said_more, unsaid_at}
use Rattle.dav_headers.proofs.if_header.meaning.meant_conditions.Goals as goal

pub returns-in_err-meant_condition-clause-invalid : goal.returns-in_err-meant_condition-clause-invalid
returns-in_err-meant_condition-clause-invalid c = λ e.
    let p = err_from_is_err_and c.from_residual.result c.from_residual.ensures.1 in
    let invalid : c.in_err-meant_condition.field-0.0 ≡ Invalid = same_error c.from_residual.result p.0 c.in_err-meant_condition.field-0.0 p.1 p.2 e in
    unsaid_at SaysCondition condition_view c.args.conditions.now c.loop-condition.condition-index _ _ (omega arith) refl (none_read condition_value SaysCondition _ _ invalid c.in_err-meant_condition.ensures)

pub loop-condition-preserved : goal.loop-condition-preserved
loop-condition-preserved c =
    said_more SaysCondition condition_view condition_value c.args.conditions.now c.loop-condition.condition-index _ _ c.loop-condition.meant.items _ c.in_ok-meant_condition.field-0 (omega arith) refl c.in_ok-push.ensures.items c.loop-condition.invariant c.in_ok-meant_condition.ensures
