use Rattle.std.proofs.Common.{◌≡◌, cond, min, take}
use Rattle.std.specs.List.{sum_by}
use Rattle.dav_core.specs.ElementView.{node_tree}
use Rattle.dav_core.specs.Numbers.{max_u64}
use Rattle.dav_store.specs.Sizes.{tree_len}
use Rattle.dav_http.specs.Setting.{is_set, within_set}
use Rattle.dav_http.proofs.setting.set_by.Given as goal

-- what the children so far set
abbrev pub invariant-loop-child : goal.invariant-loop-child
invariant-loop-child l =
    (l.count ≡ min (sum_by (λ n. cond (is_set (node_tree n)) (within_set (node_tree n)) 0) (take l.child-index l.child-items)) max_u64)
    × (l.bytes ≡ min (sum_by (λ n. cond (is_set (node_tree n)) (tree_len (node_tree n)) 0) (take l.child-index l.child-items)) max_u64)
