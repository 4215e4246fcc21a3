use Rattle.std.proofs.lemmas.Result.{err_from_is_err_and}
use Rattle.dav_store.proofs.LoadedReads.{next_failed, listed_failed, nodes_refused, nodes_read}
use Rattle.dav_store.proofs.memfs.loaded.list_of.Goals as goal

pub returns-in_err-next-clause-read : goal.returns-in_err-next-clause-read
returns-in_err-next-clause-read c =
    let p = err_from_is_err_and c.from_residual.result c.from_residual.ensures.1 in
    rw (p.1, p.2) (next_failed c.args.levels c.args.bytes.now c.in_err-next.field-0.0 c.in_err-next.ensures)

pub returns-in_err-count-clause-read : goal.returns-in_err-count-clause-read
returns-in_err-count-clause-read c =
    let p = err_from_is_err_and c.from_residual-in_err-count.result c.from_residual-in_err-count.ensures.1 in
    rw (p.1, p.2) (listed_failed c.args.levels c.args.bytes.now c.in_ok-next.next c.in_ok-next.rest.now c.in_ok-next.ensures c.in_err-count.field-0.0 c.in_err-count.ensures)

pub returns-in_err-list-clause-read : goal.returns-in_err-list-clause-read
returns-in_err-list-clause-read c =
    let p = err_from_is_err_and c.from_residual-in_err-list.result c.from_residual-in_err-list.ensures.1 in
    rw (p.1, p.2) (nodes_refused c.args.levels c.args.bytes.now c.in_ok-next.next c.in_ok-next.rest.now c.in_ok-next.ensures c.in_ok-count.count c.in_ok-count.rest.now c.in_ok-count.ensures c.in_err-list.field-0.0 c.in_err-list.ensures)

pub returns-clause-read : goal.returns-clause-read
returns-clause-read c = (
  nodes_read c.args.levels c.args.bytes.now c.in_ok-next.next c.in_ok-next.rest.now c.in_ok-next.ensures c.in_ok-count.count c.in_ok-count.rest.now c.in_ok-count.ensures c.in_ok-list.list.items c.in_ok-list.rest.now c.in_ok-list.ensures.0,
  c.in_ok-list.ensures.1,
)
