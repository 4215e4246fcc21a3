use Rattle.std.proofs.Common.{◌≡◌, ◌+◌, min, take}
use Rattle.std.specs.List.{sum_by}
use Rattle.dav_core.specs.ElementView.{attribute_bytes}
use Rattle.dav_core.specs.Numbers.{max_u64}
use Rattle.dav_store.specs.Sizes.{pair_len}
use Rattle.dav_store.proofs.properties.size.and_attributes.Given as goal

-- the bytes of the attributes so far
abbrev pub invariant-loop-attribute : goal.invariant-loop-attribute
invariant-loop-attribute l = l.total ≡ min (l.sum + sum_by (λ a. pair_len (attribute_bytes a)) (take l.attribute-index l.attributes)) max_u64
