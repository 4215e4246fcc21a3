-- Members of a folder.
use Rattle.std.proofs.Common.{◌≡◌, zero, suc, ◌<◌, List, [], ◌∷◌, All, map, length, get_or, drop, ap, arith}

-- what is equal for all of a list is equal for each
pub all_same : {X Y : Type 0} (f : X → Y) (y : Y) (xs : List X) → map f xs ≡ map (λ _. y) xs → All (λ x. f x ≡ y) xs
all_same f y [] e = λ k d lt. absurd (omega arith)
all_same f y (x ∷ xs) e = λ k d lt. elim k as (λ i. i < length (x ∷ xs) → f (get_or (x ∷ xs) i d) ≡ y) [
  | zero ↦ λ _. ap (λ ys. get_or ys 0 y) e
  | suc i ↦ λ l. all_same f y xs (ap (drop 1) e) i d (omega arith)
] lt
