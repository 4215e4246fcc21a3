use Rattle.std.proofs.Common.{◌≡◌, ◌++◌, drop, map}
use Rattle.dav_core.specs.Element.{trees}
use Rattle.dav_core.specs.ElementView.{node_tree}
use Rattle.dav_saved.specs.Trees.{forest, AreSaveable}
use Rattle.dav_saved.proofs.elements.+puts.Given as goal

abbrev pub invariant-put_children-loop-child : goal.invariant-put_children-loop-child
invariant-put_children-loop-child l = (l.out.items ++ forest (trees (map node_tree (drop l.child-index l.child-items))) ≡ l.fn.out.items ++ forest (trees (map node_tree l.child-items)))
    × (AreSaveable (trees (map node_tree (drop l.child-index l.child-items))) → AreSaveable (trees (map node_tree l.child-items)))
