-- Names byte by byte.
use Rattle.std.proofs.Common.{◌≡◌, ◌<◌, ℕ, suc, List, [], ◌∷◌, length, get_or, bytes_eq, Bool, true, false, refl, sym, arith}
use Rattle.std.specs.Bool.{Decides}
use Rattle.std.proofs.lemmas.Slice.Eq.{bytes_eq-Decides}

-- lists of one length with the same elements
same_elements : (xs ys : List ℕ) → length xs ≡ length ys → ((k : ℕ) → k < length xs → get_or xs k 0 ≡ get_or ys k 0) → xs ≡ ys
same_elements [] [] e h = refl
same_elements [] (y ∷ ys) e h = absurd (omega (arith, e))
same_elements (x ∷ xs) [] e h = absurd (omega (arith, e))
same_elements (x ∷ xs) (y ∷ ys) e h = cc (h 0 (omega arith), same_elements xs ys (omega (arith, e)) (λ k lt. h (suc k) (omega (arith, lt))))

equal : (b : Bool) (xs ys : List ℕ) → Decides b (xs ≡ ys) → xs ≡ ys → true ≡ b
equal true xs ys d e = refl
equal false xs ys d e = sym (d.1 e)

pub all_same : (xs ys : List ℕ) → length xs ≡ length ys → ((k : ℕ) → k < length xs → get_or xs k 0 ≡ get_or ys k 0) → true ≡ bytes_eq xs ys
all_same xs ys e h = equal (bytes_eq xs ys) xs ys (bytes_eq-Decides xs ys) (same_elements xs ys e h)
