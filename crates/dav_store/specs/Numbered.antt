-- Values by numbers.
use Rattle.std.specs.Prelude.{◌≡◌, ℕ, List, [], ◌∷◌}
use Rattle.std.specs.Ordering.{nat_cmp}
use Rattle.std.specs.BTreeMap.{insert_entry}
use Rattle.std.specs.List.{AllZip}

-- the entries in the order of their numbers
abbrev pub in_order : {X : Type 0} → List (ℕ × X) → List (ℕ × X)
in_order [] = []
in_order (e ∷ es) = insert_entry nat_cmp (in_order es) e.0 e.1

-- two maps have the same numbers, and the second has clones of the values of the first
abbrev pub AreClones : {X : Type 0} → (X → X → Type 0) → List (ℕ × X) → List (ℕ × X) → Type 0
AreClones is_clone old new = AllZip (λ e c. (c.0 ≡ e.0) × is_clone e.1 c.1) old new
