-- How words are read as amounts.
use Rattle.std.proofs.Common.{◌≡◌, ◌⊎◌, inl, inr, ◌<◌, ℕ, List, [], ◌∷◌, ◌++◌, Option, Some, None, MatchOption, codes, sym, ◌∙◌, subst, arith}
use Rattle.std.specs.Str.Parse.{AllDigits}
use Rattle.std.specs.Char.{digit_value}
use Rattle.std.proofs.lemmas.List.{same_from_push}
use denote.Ref.{Bor}
use Rattle.dav_access.specs.Amounts.{EndsIn, IsAmount, IsTimes, giga, kilo, mega, ones}

-- ---- the letter at the end

-- either letter is there, or neither
pub either : (letter capital word : List ℕ) (r : Option (Bor (List ℕ))) → ((front : List ℕ) → ¬ (word ≡ front ++ letter))
    → MatchOption r ((front : List ℕ) → ¬ (word ≡ front ++ capital)) (λ front. word ≡ front.now ++ capital)
    → MatchOption r ((front : List ℕ) → ¬ EndsIn letter capital word front) (λ front. EndsIn letter capital word front.now)
either letter capital word None lacks is = λ front ends. elim ends [
  | inl e ↦ lacks front e
  | inr e ↦ is front e
]
either letter capital word (Some front) lacks is = inr is

-- a word that ends so, and so, has one front, and one of the letters is one of the others
pub ends_same : (a b c d : ℕ) (word xs ys : List ℕ) → EndsIn (a ∷ []) (b ∷ []) word xs → EndsIn (c ∷ []) (d ∷ []) word ys → (xs ≡ ys) × ((a ≡ c) ⊎ ((a ≡ d) ⊎ ((b ≡ c) ⊎ (b ≡ d))))
ends_same a b c d word xs ys (inl e) (inl f) = let p = same_from_push xs ys a c (sym e ∙ f) in (p.0, inl p.1)
ends_same a b c d word xs ys (inl e) (inr f) = let p = same_from_push xs ys a d (sym e ∙ f) in (p.0, inr (inl p.1))
ends_same a b c d word xs ys (inr e) (inl f) = let p = same_from_push xs ys b c (sym e ∙ f) in (p.0, inr (inr (inl p.1)))
ends_same a b c d word xs ys (inr e) (inr f) = let p = same_from_push xs ys b d (sym e ∙ f) in (p.0, inr (inr (inr p.1)))

-- two pairs of letters that have none in common
one_pair : (a b c d : ℕ) (word xs ys : List ℕ) → ¬ (a ≡ c) → ¬ (a ≡ d) → ¬ (b ≡ c) → ¬ (b ≡ d) → EndsIn (a ∷ []) (b ∷ []) word xs → ¬ EndsIn (c ∷ []) (d ∷ []) word ys
one_pair a b c d word xs ys ac ad bc bd one other = elim (ends_same a b c d word xs ys one other).1 [
  | inl e ↦ ac e
  | inr (inl e) ↦ ad e
  | inr (inr (inl e)) ↦ bc e
  | inr (inr (inr e)) ↦ bd e
]

-- the digits at the end of a text
digits_end : (xs ys : List ℕ) → AllDigits 10 (xs ++ ys) → AllDigits 10 ys
digits_end [] ys all = all
digits_end (x ∷ xs) ys all = digits_end xs ys all.1

-- a number doesn't end in a letter
no_letter : (a b times number : ℕ) (word xs : List ℕ) → ¬ (digit_value a < 10) → ¬ (digit_value b < 10) → IsTimes word times number → ¬ EndsIn (a ∷ []) (b ∷ []) word xs
no_letter a b times number word xs na nb t (inl e) = na (digits_end xs (a ∷ []) (subst (AllDigits 10) e t.decimal.1)).0
no_letter a b times number word xs na nb t (inr e) = nb (digits_end xs (b ∷ []) (subst (AllDigits 10) e t.decimal.1)).0

-- ---- words that end in a letter

front_times : (a b times number : ℕ) (word xs ys : List ℕ) → EndsIn (a ∷ []) (b ∷ []) word xs → EndsIn (a ∷ []) (b ∷ []) word ys → IsTimes xs times number → IsTimes ys times number
front_times a b times number word xs ys one other t = subst (λ (ds : List ℕ). IsTimes ds times number) (ends_same a b a b word xs ys one other).0 t

-- what a word is that ends in `k`, `m` or `g`
pub only_kilo : (word digits : List ℕ) (number : ℕ) → EndsIn (codes "k") (codes "K") word digits → IsAmount word number → IsTimes digits 1024 number
only_kilo word digits number ends (ones t) = absurd (no_letter 107 75 1 number word digits (λ l. omega (arith, l)) (λ l. omega (arith, l)) t ends)
only_kilo word digits number ends (kilo e t) = front_times 107 75 1024 number word _ digits e ends t
only_kilo word digits number ends (mega e t) = absurd (one_pair 107 75 109 77 word digits _ (λ l. omega (arith, l)) (λ l. omega (arith, l)) (λ l. omega (arith, l)) (λ l. omega (arith, l)) ends e)
only_kilo word digits number ends (giga e t) = absurd (one_pair 107 75 103 71 word digits _ (λ l. omega (arith, l)) (λ l. omega (arith, l)) (λ l. omega (arith, l)) (λ l. omega (arith, l)) ends e)

pub only_mega : (word digits : List ℕ) (number : ℕ) → EndsIn (codes "m") (codes "M") word digits → IsAmount word number → IsTimes digits 1048576 number
only_mega word digits number ends (ones t) = absurd (no_letter 109 77 1 number word digits (λ l. omega (arith, l)) (λ l. omega (arith, l)) t ends)
only_mega word digits number ends (kilo e t) = absurd (one_pair 109 77 107 75 word digits _ (λ l. omega (arith, l)) (λ l. omega (arith, l)) (λ l. omega (arith, l)) (λ l. omega (arith, l)) ends e)
only_mega word digits number ends (mega e t) = front_times 109 77 1048576 number word _ digits e ends t
only_mega word digits number ends (giga e t) = absurd (one_pair 109 77 103 71 word digits _ (λ l. omega (arith, l)) (λ l. omega (arith, l)) (λ l. omega (arith, l)) (λ l. omega (arith, l)) ends e)

pub only_giga : (word digits : List ℕ) (number : ℕ) → EndsIn (codes "g") (codes "G") word digits → IsAmount word number → IsTimes digits 1073741824 number
only_giga word digits number ends (ones t) = absurd (no_letter 103 71 1 number word digits (λ l. omega (arith, l)) (λ l. omega (arith, l)) t ends)
only_giga word digits number ends (kilo e t) = absurd (one_pair 103 71 107 75 word digits _ (λ l. omega (arith, l)) (λ l. omega (arith, l)) (λ l. omega (arith, l)) (λ l. omega (arith, l)) ends e)
only_giga word digits number ends (mega e t) = absurd (one_pair 103 71 109 77 word digits _ (λ l. omega (arith, l)) (λ l. omega (arith, l)) (λ l. omega (arith, l)) (λ l. omega (arith, l)) ends e)
only_giga word digits number ends (giga e t) = front_times 103 71 1073741824 number word _ digits e ends t

-- the amount of a word is that of its digits
pub amount_is : (word digits : List ℕ) (times : ℕ) (r : Option ℕ) → ((number : ℕ) → IsTimes digits times number → IsAmount word number)
    → ((number : ℕ) → IsAmount word number → IsTimes digits times number) → MatchOption r ((number : ℕ) → ¬ IsTimes digits times number) (IsTimes digits times)
    → MatchOption r ((number : ℕ) → ¬ IsAmount word number) (IsAmount word)
amount_is word digits times None to from is = λ number amount. is number (from number amount)
amount_is word digits times (Some number) to from is = to number is
