use Rattle.std.proofs.Common.{◌≡◌, min, take, map}
use Rattle.dav_core.specs.Element.{depth_among, trees}
use Rattle.dav_core.specs.ElementView.{node_tree}
use Rattle.dav_core.proofs.element.+depths.Given as goal

abbrev pub invariant-Element::depth-loop-child : goal.invariant-Element::depth-loop-child
invariant-Element::depth-loop-child l =
    l.most ≡ min 18446744073709551615 (depth_among (trees (map node_tree (take l.child-index l.child-items))))
