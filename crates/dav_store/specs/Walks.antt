-- Walks down a tree of numbered nodes, and climbs up it.
use Rattle.std.specs.Prelude.{ℕ, zero, suc, List, [], ◌∷◌, Option, None, Some}
use Rattle.std.specs.Option.{option_and_then, option_map}

module _ {K : Type 0} (child : ℕ → K → Option ℕ) where
  -- the node that a path leads to from the root, where the path is given with its last key first
  abbrev pub reach : List K → Option ℕ
  reach [] = Some 1
  reach (k ∷ r) = option_and_then (λ n. child n k) (reach r)

  -- the node that keys lead to from a node, the first key first
  abbrev pub walk : ℕ → List K → Option ℕ
  walk n [] = Some n
  walk n (k ∷ q) = option_and_then (λ m. walk m q) (child n k)

module _ {K : Type 0} (seat : ℕ → Option (Option (ℕ × K))) where
  -- the path of a node at this seat, its last key first, where `above` has the paths of the nodes above; none where there is no seat
  abbrev pub climb_from : (ℕ → Option (List K)) → Option (Option (ℕ × K)) → Option (List K)
  climb_from above None = None
  climb_from above (Some None) = Some []
  climb_from above (Some (Some s)) = option_map (λ r. s.1 ∷ r) (above s.0)

  -- the path of a node, its last key first, found in fewer than so many steps to the parent; none where they don't lead to the root
  abbrev pub climb : ℕ → ℕ → Option (List K)
  climb zero m = None
  climb (suc steps) m = climb_from (climb steps) (seat m)
