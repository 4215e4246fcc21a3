use Rattle.std.proofs.Common.{◌≡◌, map}
use Rattle.dav_core.specs.ElementView.{node_tree}
use Rattle.dav_presented.specs.Times.{asked_too}
use Rattle.dav_presented.proofs.times.asked.all_in_find.Given as goal

abbrev pub invariant-loop-child : goal.invariant-loop-child
invariant-loop-child l = map node_tree l.nodes.items ≡ map asked_too (map node_tree l.yielded)
