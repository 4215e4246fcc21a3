use Rattle.std.proofs.Common.{sym, subst}
use Rattle.std.specs.List.{AllByRecursion}
use Rattle.std.proofs.lemmas.Result.{err_from_is_err_and}
use Rattle.dav_saved.specs.Reading.{sized_at, many_at}
use Rattle.dav_saved.proofs.Loop.{goes_on, is_done}
use Rattle.dav_store.specs.Loaded.{IsNameOfBytes}
use Rattle.dav_store.proofs.LoadedNodes.{all_push}
use Rattle.dav_store.proofs.LoadedReads.{ends_only}
use Rattle.dav_store.proofs.names.saved.names_at.Goals as goal

pub returns-in_err-name : goal.returns-in_err-name
returns-in_err-name c =
    let p = err_from_is_err_and c.from_residual.result c.from_residual.ensures.1 in
    rw (p.1, p.2) (ends_only IsNameOfBytes sized_at c.in_err-name.field-0.0 c.loop.names.items c.args.count c.loop.counter c.loop.rest.now (many_at sized_at c.args.count c.args.bytes.now) c.loop-test.true c.in_err-name.ensures c.loop.invariant.0)

pub loop-preserved : goal.loop-preserved
loop-preserved c = (
  rw c.in_ok-push.ensures.items
      (goes_on sized_at c.loop.names.items c.args.count c.loop.counter c.loop.rest.now c.in_ok-name.name c.in_ok-name.after.now (many_at sized_at c.args.count c.args.bytes.now) c.loop-test.true c.in_ok-name.ensures.0 c.loop.invariant.0),
  subst (AllByRecursion IsNameOfBytes) (sym c.in_ok-push.ensures.items) (all_push IsNameOfBytes c.loop.names.items c.in_ok-name.name c.loop.invariant.1 c.in_ok-name.ensures.1),
)

pub returns : goal.returns
returns c =
    (is_done sized_at c.loop.names.items c.args.count c.loop.counter c.loop.rest.now (many_at sized_at c.args.count c.args.bytes.now) c.loop-test.false c.loop.invariant.0, c.loop.invariant.1)
