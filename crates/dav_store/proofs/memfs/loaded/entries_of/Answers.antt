use Rattle.std.proofs.Common.{sym, subst}
use Rattle.std.specs.List.{AllByRecursion}
use Rattle.std.proofs.lemmas.Result.{err_from_is_err_and}
use Rattle.dav_saved.specs.Reading.{many_at}
use Rattle.dav_saved.specs.Worlds.{entry_at}
use Rattle.dav_saved.proofs.Loop.{goes_on, is_done}
use Rattle.dav_store.specs.Loaded.{IsFit}
use Rattle.dav_store.proofs.LoadedNodes.{all_push}
use Rattle.dav_store.proofs.LoadedReads.{ends_only}
use Rattle.dav_store.proofs.memfs.loaded.entries_of.Goals as goal

pub returns-in_err-entry : goal.returns-in_err-entry
returns-in_err-entry c =
    let p = err_from_is_err_and c.from_residual.result c.from_residual.ensures.1 in
    rw (p.1, p.2) (ends_only (IsFit c.args.next) (entry_at c.args.levels) c.in_err-entry.field-0.0 c.loop.list.items c.args.count c.loop.counter c.loop.rest.now (many_at (entry_at c.args.levels) c.args.count c.args.bytes.now) c.loop-test.true c.in_err-entry.ensures c.loop.invariant.0)

pub loop-preserved : goal.loop-preserved
loop-preserved c = (
  rw c.in_ok-push.ensures.items
      (goes_on (entry_at c.args.levels) c.loop.list.items c.args.count c.loop.counter c.loop.rest.now c.in_ok-entry.entry c.in_ok-entry.after.now (many_at (entry_at c.args.levels) c.args.count c.args.bytes.now) c.loop-test.true c.in_ok-entry.ensures.0 c.loop.invariant.0),
  subst (AllByRecursion (IsFit c.args.next)) (sym c.in_ok-push.ensures.items) (all_push (IsFit c.args.next) c.loop.list.items c.in_ok-entry.entry c.loop.invariant.1 c.in_ok-entry.ensures.1),
)

pub returns : goal.returns
returns c =
    (is_done (entry_at c.args.levels) c.loop.list.items c.args.count c.loop.counter c.loop.rest.now (many_at (entry_at c.args.levels) c.args.count c.args.bytes.now) c.loop-test.false c.loop.invariant.0, c.loop.invariant.1)
