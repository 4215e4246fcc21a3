-- Media types without their parameters, and the case of their letters.
use Rattle.std.proofs.Common.{◌≡◌, ◌<◌, ◌↔◌, ◌-◌, ℕ, suc, zero, List, [], ◌∷◌, map, take, drop, length, get_or, bytes_eq, IsTrue, Bool, true, false, refl, ap, sym, ◌∙◌, arith}
use Rattle.std.specs.Bool.{Decides}
use Rattle.std.specs.Char.{to_ascii_lowercase}
use Rattle.std.proofs.Math.Seq.{take-length}
use Rattle.std.proofs.lemmas.List.{length-drop}
use Rattle.std.proofs.lemmas.Slice.Eq.{bytes_eq-Decides}
use Rattle.dav_presented.specs.Types.{ends_type, essence_of, suffix_of}

-- what nothing ends is all of the text
pub all_of : (text : List ℕ) → ((k : ℕ) → k < length text → ends_type (get_or text k 0) ≡ false) → map to_ascii_lowercase text ≡ essence_of text
all_of [] none = refl
all_of (b ∷ bs) none =
    let first : ends_type b ≡ false = none 0 (omega arith) in
    let rest : map to_ascii_lowercase bs ≡ essence_of bs = all_of bs (λ k lt. none (suc k) (omega (arith, lt))) in
    rw first (ap (λ ys. to_ascii_lowercase b ∷ ys) rest)

-- what is before the first byte that ends it
pub cut_at : (i : ℕ) (text : List ℕ) → i < length text → ((k : ℕ) → k < i → ends_type (get_or text k 0) ≡ false) → ends_type (get_or text i 0) ≡ true
    → map to_ascii_lowercase (take i text) ≡ essence_of text
cut_at i [] lt none here = absurd (omega (arith, lt))
cut_at zero (b ∷ bs) lt none here = rw here refl
cut_at (suc i) (b ∷ bs) lt none here =
    let first : ends_type b ≡ false = none 0 (omega arith) in
    let rest : map to_ascii_lowercase (take i bs) ≡ essence_of bs = cut_at i bs (omega (arith, lt)) (λ k below. none (suc k) (omega (arith, below))) here in
    rw first (ap (λ ys. to_ascii_lowercase b ∷ ys) rest)

-- two tests of one fact are the same
one_test : (a b : Bool) (P : Type 0) → (IsTrue a ↔ P) → Decides b P → a ≡ b
one_test true true P h k = refl
one_test true false P h k = sym (k.1 (h.0 refl))
one_test false true P h k = h.1 (k.0 refl)
one_test false false P h k = refl

pub same_letters : (same : Bool) (xs ys : List ℕ) → (IsTrue same ↔ (map to_ascii_lowercase xs ≡ map to_ascii_lowercase ys))
    → same ≡ bytes_eq (map to_ascii_lowercase xs) (map to_ascii_lowercase ys)
same_letters same xs ys h = one_test same _ _ h (bytes_eq-Decides (map to_ascii_lowercase xs) (map to_ascii_lowercase ys))

map_length : (xs : List ℕ) → length (map to_ascii_lowercase xs) ≡ length xs
map_length [] = refl
map_length (x ∷ xs) = ap suc (map_length xs)

map_drop : (n : ℕ) (xs : List ℕ) → map to_ascii_lowercase (drop n xs) ≡ drop n (map to_ascii_lowercase xs)
map_drop zero xs = refl
map_drop (suc n) [] = refl
map_drop (suc n) (x ∷ xs) = map_drop n xs

take_all : (n : ℕ) (xs : List ℕ) → n ≡ length xs → take n xs ≡ xs
take_all n xs e = rw e (take-length xs)

pub suffix_in_lower_case : (start : ℕ) (xs : List ℕ) → start ≡ length xs - 4
    → map to_ascii_lowercase (take (length xs - start) (drop start xs)) ≡ suffix_of (map to_ascii_lowercase xs)
suffix_in_lower_case start xs e =
    ap (map to_ascii_lowercase) (take_all _ _ (sym (length-drop start xs))) ∙ map_drop start xs
    ∙ ap (λ n. drop n (map to_ascii_lowercase xs)) (e ∙ ap (λ n. n - 4) (sym (map_length xs)))
