use Rattle.std.proofs.Common.{◌≡◌, Err, ap, arith}
use Rattle.std.proofs.lemmas.Result.{err_from_is_err_and}
use Rattle.dav_headers.specs.IfWritten.{SaysList}
use Rattle.dav_headers.specs.IfTexts.{list_view}
use Rattle.dav_headers.specs.IfView.{list_value}
use Rattle.dav_headers.specs.declared.errors.HeaderError.TheVariants.{Invalid}
use Rattle.dav_headers.proofs.IfListLemmas.{same_error}
use Rattle.dav_headers.proofs.IfMeaningLemmas.{said_more, unsaid_at}
use Rattle.dav_headers.proofs.if_header.meaning.meant_lists.Goals as goal

pub returns-in_err-meant_list-clause-invalid : goal.returns-in_err-meant_list-clause-invalid
returns-in_err-meant_list-clause-invalid c = λ e.
    let p = err_from_is_err_and c.from_residual.result c.from_residual.ensures.1 in
    let invalid : c.in_err-meant_list.field-0.0 ≡ Invalid = same_error c.from_residual.result p.0 c.in_err-meant_list.field-0.0 p.1 p.2 e in
    unsaid_at SaysList list_view c.args.lists.now c.loop-list.list-index _ _ (omega arith) c.list-item.is (c.in_err-meant_list.ensures.invalid (ap Err invalid))

pub loop-list-preserved : goal.loop-list-preserved
loop-list-preserved c =
    said_more SaysList list_view list_value c.args.lists.now c.loop-list.list-index _ _ c.loop-list.meant.items _ c.in_ok-meant_list.field-0 (omega arith) c.list-item.is c.in_ok-push.ensures.items c.loop-list.invariant c.in_ok-meant_list.ensures.ok
