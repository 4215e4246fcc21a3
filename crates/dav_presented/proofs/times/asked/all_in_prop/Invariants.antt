use Rattle.std.proofs.Common.{◌≡◌, map}
use Rattle.dav_core.specs.ElementView.{node_tree}
use Rattle.dav_presented.specs.Times.{set_as}
use Rattle.dav_presented.proofs.times.asked.all_in_prop.Given as goal

abbrev pub invariant-loop-child : goal.invariant-loop-child
invariant-loop-child l = map node_tree l.nodes.items ≡ map (set_as l.moment) (map node_tree l.yielded)
