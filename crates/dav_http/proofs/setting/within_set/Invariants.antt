use Rattle.std.proofs.Common.{◌≡◌, length, min, take}
use Rattle.std.specs.List.{sum_by}
use Rattle.dav_core.specs.Element.{children_of}
use Rattle.dav_core.specs.ElementView.{node_tree}
use Rattle.dav_core.specs.Numbers.{max_u64}
use Rattle.dav_http.proofs.setting.within_set.Given as goal

-- the children of the children so far
abbrev pub invariant-loop-child : goal.invariant-loop-child
invariant-loop-child l = l.total ≡ min (sum_by (λ n. length (children_of (node_tree n))) (take l.child-index l.child-items)) max_u64
