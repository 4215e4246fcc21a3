use Rattle.dav_headers.proofs.IfTokenLemmas.{empty_from_test, some_from_test}
use Rattle.dav_headers.proofs.RangeLemmas.{no_last, no_start, no_end}
use Rattle.dav_headers.proofs.range.update_range.Goals as goal

pub returns-in_err-number : goal.returns-in_err-number
returns-in_err-number c =
    let empty = empty_from_test c.args.from.now _ c.is_empty.ensures c.if-is_empty.true in
    rw c.from_residual.ensures (no_last c.args.from.now c.args.to.now empty c.in_err-number.ensures)

pub returns-in_err-from : goal.returns-in_err-from
returns-in_err-from c =
    let some = some_from_test c.args.from.now _ c.is_empty.ensures c.if-is_empty.false in
    rw c.from_residual-in_err-from.ensures (no_start c.args.from.now c.args.to.now some c.in_err-from.ensures)

pub returns-in_err-number-2 : goal.returns-in_err-number-2
returns-in_err-number-2 c =
    let some = some_from_test c.args.from.now _ c.is_empty.ensures c.if-is_empty.false in
    let more = some_from_test c.args.to.now _ c.is_empty-2.ensures c.if-is_empty-2.false in
    rw c.from_residual-in_err-number-2.ensures (no_end c.args.from.now c.args.to.now some more c.in_err-number-2.ensures)
