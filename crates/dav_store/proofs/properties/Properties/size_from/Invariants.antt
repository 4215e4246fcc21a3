use Rattle.std.proofs.Common.{◌≡◌, ◌+◌, min, take}
use Rattle.std.specs.List.{sum_by}
use Rattle.dav_core.specs.Numbers.{max_u64}
use Rattle.dav_store.specs.Sizes.{property_len}
use Rattle.dav_store.proofs.properties.Properties.size_from.Given as goal

-- the bytes of the properties so far
abbrev pub invariant-loop-entry : goal.invariant-loop-entry
invariant-loop-entry l = l.total ≡ min (l.sum + sum_by property_len (take l.entry-index l.entry-items)) max_u64
