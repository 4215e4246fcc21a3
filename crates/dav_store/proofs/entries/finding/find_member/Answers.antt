use Rattle.dav_store.specs.Placed.{bare}
use Rattle.dav_store.proofs.EntryLemmas.{member_step, member_end}
use Rattle.dav_store.proofs.entries.finding.find_member.Goals as goal

pub loop-above-preserved : goal.loop-above-preserved
loop-above-preserved c =
    member_step (bare c.args.tree.now) c.as_slice-above-items.result.now c.args.folder.now c.loop-above.above-index c.above-item.result c.as_slice.result.now c.loop-above.at c.child-at.result
    c.as_slice-above-items.ensures c.loop-above-test.true c.loop-above.invariant c.above-item.is c.as_slice.ensures.value c.child-at.ensures

pub returns : goal.returns
returns c =
    member_end (bare c.args.tree.now) c.as_slice-above-items.result.now c.args.folder.now c.loop-above.above-index c.as_slice-2.result.now c.args.name.now c.loop-above.at c.child.result
    c.as_slice-above-items.ensures c.loop-above-test.false c.loop-above.invariant c.as_slice-2.ensures.value c.child.ensures
