use Rattle.std.proofs.lemmas.Result.{err_from_is_err_and}
use Rattle.std.specs.List.{AllByRecursion}
use Rattle.dav_saved.specs.Reading.{sized_at, list_at}
use Rattle.dav_saved.specs.Worlds.{entry_at, node_at}
use Rattle.dav_store.specs.Loaded.{IsNameOfBytes, IsFitNode}
use Rattle.dav_store.proofs.LoadedReads.{first_refused, second_refused, both_read}
use Rattle.dav_store.proofs.memfs.loaded.entry_of.Goals as goal

pub returns-in_err-path : goal.returns-in_err-path
unfolding entry_at
returns-in_err-path c =
    let p = err_from_is_err_and c.from_residual.result c.from_residual.ensures.1 in
    rw (p.1, p.2) (first_refused (AllByRecursion IsNameOfBytes) (IsFitNode c.args.next) (list_at sized_at) (node_at c.args.levels) c.args.bytes.now c.in_err-path.field-0.0 c.in_err-path.ensures)

pub returns-in_err-node : goal.returns-in_err-node
unfolding entry_at
returns-in_err-node c =
    let p = err_from_is_err_and c.from_residual-in_err-node.result c.from_residual-in_err-node.ensures.1 in
    rw (p.1, p.2) (second_refused (AllByRecursion IsNameOfBytes) (IsFitNode c.args.next) (list_at sized_at) (node_at c.args.levels) c.args.bytes.now c.in_ok-path.path c.in_ok-path.rest.now c.in_ok-path.ensures.0 c.in_err-node.field-0.0 c.in_err-node.ensures)

pub returns : goal.returns
unfolding entry_at
returns c = (
  both_read (AllByRecursion IsNameOfBytes) (IsFitNode c.args.next) (list_at sized_at) (node_at c.args.levels) c.args.bytes.now c.in_ok-path.path c.in_ok-path.rest.now c.in_ok-path.ensures.0 c.in_ok-node.node c.in_ok-node.rest.now c.in_ok-node.ensures.0,
  (c.in_ok-path.ensures.1, c.in_ok-node.ensures.1),
)
