use Rattle.std.proofs.Common.{◌≡◌, map}
use Rattle.dav_core.specs.ElementView.{node_tree}
use Rattle.dav_presented.specs.Responses.{changed_child}
use Rattle.dav_presented.proofs.responses.changed_children.Given as goal

abbrev pub invariant-loop-child : goal.invariant-loop-child
invariant-loop-child g l = map node_tree l.nodes.items ≡ map (changed_child (g.C.Change.changed l.change)) (map node_tree l.yielded)
