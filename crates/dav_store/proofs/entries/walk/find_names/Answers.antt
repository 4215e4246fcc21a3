use Rattle.dav_store.specs.Placed.{bare}
use Rattle.dav_store.proofs.EntryLemmas.{member_step}
use Rattle.dav_store.proofs.entries.walk.find_names.Goals as goal

pub loop-name-preserved : goal.loop-name-preserved
loop-name-preserved c =
    member_step (bare c.args.tree.now) c.as_slice-name-items.result.now c.args.path.now c.loop-name.name-index c.name-item.result c.as_slice.result.now c.loop-name.at c.child-at.result
    c.as_slice-name-items.ensures c.loop-name-test.true c.loop-name.invariant c.name-item.is c.as_slice.ensures.value c.child-at.ensures
