use Rattle.std.proofs.Common.{◌≡◌, ◌-◌, ◌+◌, ◌*◌, map}
use Rattle.dav_core.specs.ElementView.{node_tree}
use Rattle.dav_saved.specs.Reading.{many_at}
use Rattle.dav_saved.specs.Trees.{tree_at}
use Rattle.dav_saved.proofs.Loop.{with_front}
use Rattle.dav_saved.proofs.trees.+reads.Given as goal

abbrev pub decreases-element_at : goal.decreases-element_at
decreases-element_at l = 3 * l.levels + 2

abbrev pub decreases-children_at : goal.decreases-children_at
decreases-children_at l = 3 * l.levels + 1

abbrev pub decreases-node_at : goal.decreases-node_at
decreases-node_at l = 3 * l.levels

abbrev pub invariant-children_at-loop : goal.invariant-children_at-loop
invariant-children_at-loop l = with_front (map node_tree l.children.items) (many_at (tree_at l.levels) (l.count - l.counter) l.rest) ≡ many_at (tree_at l.levels) l.count l.bytes
