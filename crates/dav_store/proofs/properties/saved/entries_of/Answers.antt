use Rattle.std.proofs.lemmas.Result.{err_from_is_err_and}
use Rattle.dav_saved.specs.Reading.{many_at}
use Rattle.dav_saved.specs.Worlds.{property_at}
use Rattle.dav_saved.proofs.Loop.{goes_on, ends, is_done}
use Rattle.dav_store.proofs.properties.saved.entries_of.Goals as goal

pub returns-in_err-entry : goal.returns-in_err-entry
returns-in_err-entry c =
    let p = err_from_is_err_and c.from_residual.result c.from_residual.ensures.1 in
    rw (p.1, p.2) (ends (property_at c.args.levels) c.in_err-entry.field-0.0 c.loop.entries.items c.args.count c.loop.counter c.loop.rest.now (many_at (property_at c.args.levels) c.args.count c.args.bytes.now) c.loop-test.true c.in_err-entry.ensures c.loop.invariant)

pub loop-preserved : goal.loop-preserved
loop-preserved c =
    rw c.in_ok-push.ensures.items
    (goes_on (property_at c.args.levels) c.loop.entries.items c.args.count c.loop.counter c.loop.rest.now c.in_ok-entry.entry c.in_ok-entry.after.now (many_at (property_at c.args.levels) c.args.count c.args.bytes.now) c.loop-test.true c.in_ok-entry.ensures c.loop.invariant)

pub returns : goal.returns
returns c = is_done (property_at c.args.levels) c.loop.entries.items c.args.count c.loop.counter c.loop.rest.now (many_at (property_at c.args.levels) c.args.count c.args.bytes.now) c.loop-test.false c.loop.invariant
