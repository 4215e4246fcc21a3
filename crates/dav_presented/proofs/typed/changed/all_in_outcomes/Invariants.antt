use Rattle.std.proofs.Common.{◌≡◌, map}
use Rattle.dav_core.specs.ElementView.{node_tree}
use Rattle.dav_presented.specs.Typed.{outcome_child}
use Rattle.dav_presented.proofs.typed.changed.all_in_outcomes.Given as goal

abbrev pub invariant-loop-child : goal.invariant-loop-child
invariant-loop-child l = map node_tree l.nodes.items ≡ map outcome_child (map node_tree l.yielded)
