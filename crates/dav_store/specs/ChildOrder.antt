-- The order in which the children of a node are listed.
use Rattle.std.specs.Prelude.{ℕ, Vec}
use Rattle.std.specs.declared.cmp.Ordering.{Ordering}
use Rattle.std.specs.Ordering.{nat_cmp, ordering_then}
use Rattle.dav_core.specs.Path.{name_cmp}

-- the order of two children of a node in a listing: by the bytes of their names, and then by their numbers
abbrev pub child_cmp : {Z : Type 0} → Vec ℕ Z × ℕ → Vec ℕ Z × ℕ → Ordering
child_cmp a b = ordering_then (name_cmp a.0.items b.0.items) (nat_cmp a.1 b.1)
