use Rattle.std.proofs.Common.{◌≡◌, map, drop}
use Rattle.dav_core.specs.Element.{trees}
use Rattle.dav_core.specs.ElementEq.{trees_eq}
use Rattle.dav_core.specs.ElementView.{node_tree}
use Rattle.dav_core.proofs.element.+equals.Given as goal

abbrev pub invariant-children::are_equal-loop-index : goal.invariant-children::are_equal-loop-index
invariant-children::are_equal-loop-index l =
    trees_eq (trees (map node_tree l.left)) (trees (map node_tree l.right)) ≡ trees_eq (trees (map node_tree (drop l.index l.left))) (trees (map node_tree (drop l.index l.right)))
