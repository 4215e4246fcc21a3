use Rattle.std.proofs.Common.{◌∙◌}
use Rattle.dav_core.proofs.NodeLemmas.{depth_turn}
use Rattle.dav_core.proofs.element.+depths.Goals as goal

pub Element::depth-loop-child-preserved : goal.Element::depth-loop-child-preserved
Element::depth-loop-child-preserved t c =
    c.max-most.ensures
    ∙ depth_turn c.deref-child-items.result.now c.loop-child.child-index c.child-item.result c.loop-child.most c.depth.result c.loop-child-test.true c.child-item.is c.loop-child.invariant c.depth.ensures
