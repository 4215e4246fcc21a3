use Rattle.std.proofs.Common.{◌≡◌, ◌+◌, min, take}
use Rattle.std.specs.List.{sum_by}
use Rattle.dav_core.specs.ElementView.{node_tree}
use Rattle.dav_core.specs.Numbers.{max_u64}
use Rattle.dav_store.specs.Sizes.{tree_len}
use Rattle.dav_store.proofs.properties.size.+sizes.Given as goal

-- the bytes of the children so far
abbrev pub invariant-and_children-loop-child : goal.invariant-and_children-loop-child
invariant-and_children-loop-child l = l.total ≡ min (l.sum + sum_by (λ n. tree_len (node_tree n)) (take l.child-index l.child-items)) max_u64
