-- How the texts grow that a digest is taken of.
use Rattle.std.proofs.Common.{◌≡◌, ℕ, zero, suc, ◌+◌, List, [], ◌∷◌, ◌++◌, sym, ap, ◌∙◌, append_assoc, add-one, arith}
use Rattle.std.proofs.lemmas.Grind.{flat_map-append}
use Rattle.std.proofs.lemmas.List.{append-nil}
use Rattle.std.specs.List.{flat_map, range_with_len, repeat}

repeat-suc : (n : ℕ) (xs : List ℕ) → repeat n xs ++ xs ≡ xs ++ repeat n xs
repeat-suc zero xs = sym (append-nil xs)
repeat-suc (suc n) xs = append_assoc xs (repeat n xs) xs ∙ ap (λ ys. xs ++ ys) (repeat-suc n xs)

-- once more is the text at the end
pub repeat_more : (n : ℕ) (xs m : List ℕ) → m ++ repeat (n + 1) xs ≡ (m ++ repeat n xs) ++ xs
repeat_more n xs m = rw (add-one n) (ap (λ ys. m ++ ys) (sym (repeat-suc n xs)) ∙ sym (append_assoc m (repeat n xs) xs))

shifted : (a n : ℕ) → a + 1 + n ≡ a + suc n
shifted a n = omega arith

range-suc : (a n : ℕ) → range_with_len a (suc n) ≡ range_with_len a n ++ (a + n) ∷ []
range-suc a zero = ap (λ k. k ∷ []) (let e : a ≡ a + 0 = omega arith in e)
range-suc a (suc n) = ap (λ ks. a ∷ ks) (range-suc (a + 1) n ∙ ap (λ k. range_with_len (a + 1) n ++ k ∷ []) (shifted a n))

-- one number more is what it gives at the end
pub range_more : (f : ℕ → List ℕ) (n : ℕ) (m : List ℕ)
    → m ++ flat_map f (range_with_len 0 (n + 1)) ≡ (m ++ flat_map f (range_with_len 0 n)) ++ f n
range_more f n m =
    let zeros : 0 + n ≡ n = omega arith in
    let one = range-suc 0 n ∙ ap (λ k. range_with_len 0 n ++ k ∷ []) zeros in
    let parts = ap (flat_map f) one ∙ flat_map-append f (range_with_len 0 n) (n ∷ []) ∙ ap (λ ys. flat_map f (range_with_len 0 n) ++ ys) (append-nil (f n)) in
    rw (add-one n) (ap (λ ys. m ++ ys) parts ∙ sym (append_assoc m (flat_map f (range_with_len 0 n)) (f n)))
