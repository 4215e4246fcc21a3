use Rattle.std.proofs.Common.{◌≡◌, take, map}
use Rattle.dav_core.specs.ElementView.{node_tree}
use Rattle.dav_core.proofs.element.+clones.Given as goal

abbrev pub invariant-children::copied_children-loop-child : goal.invariant-children::copied_children-loop-child
invariant-children::copied_children-loop-child l = map node_tree l.copies.items ≡ map node_tree (take l.child-index l.child-items)
