-- The texts of a report of users and rules.
use Rattle.std.proofs.Common.{◌≡◌, ◌==◌, ◌<◌, ◌+◌, ℕ, Bool, false, List, length, get_or, Some, None, sym, ap, subst, ◌∙◌, arith, drop, take}
use Rattle.std.specs.List.{position, position_or_len}
use Rattle.std.proofs.lemmas.List.Sums.{fails_before_first}
use Rattle.std.proofs.lemmas.Grind.{common_steps}
use Rattle.dav_live.specs.Lists.{AreTexts, alone, both, text_if_any}

abbrev is_zero : ℕ → Bool
is_zero b = b == 0

at_place : (xs : List ℕ) (i : ℕ) → position is_zero xs ≡ Some i → (position_or_len is_zero xs ≡ i) × (position_or_len is_zero xs < length xs)
at_place xs i e = (grind (arith, common_steps), grind (arith, common_steps))

-- with a zero there are two texts
pub both_texts : (xs list access : List ℕ) (i : ℕ) → position is_zero xs ≡ Some i → list ≡ take i xs → access ≡ drop (i + 1) xs → AreTexts xs (text_if_any list) (Some access)
both_texts xs list access i e front back =
    let at = at_place xs i e in
    both list access (record { has = at.1; front = front ∙ ap (λ (n : ℕ). take n xs) (sym at.0); back = back ∙ ap (λ (n : ℕ). drop (n + 1) xs) (sym at.0) })

none_passes : (xs : List ℕ) (k : ℕ) → position is_zero xs ≡ None → k < length xs → k < position_or_len is_zero xs
none_passes xs k e lt = grind (arith, common_steps)

-- without one there is one text
pub one_text : (xs : List ℕ) → position is_zero xs ≡ None → AreTexts xs (Some xs) None
one_text xs e = alone (λ there.
    let fails : (get_or xs there.0 0 == 0) ≡ false = fails_before_first is_zero xs there.0 0 (none_passes xs there.0 e there.1) in
    let is : get_or xs there.0 0 ≡ 0 = grind (arith, common_steps) in
    let not_zero : (0 == 0) ≡ false = subst (λ (n : ℕ). (n == 0) ≡ false) is fails in
    cc)
