-- A set of methods and the list of its methods.
use Rattle.std.proofs.Common.{◌≡◌, ◌≢◌, ℕ, zero, suc, ◌^◌, ◌<◌, ◌↔◌, ◌==◌, Bool, true, false, cond, List, [], ◌∷◌, length, map, get_or, refl, sym, ap, subst, ◌∙◌, inl, inr, arith}
use Rattle.std.specs.List.{Contains, filter, range_with_len}
use Rattle.std.specs.Int.{bit_at}
use Rattle.std.proofs.Math.ListN.{get_or-map}
use Rattle.std.proofs.lemmas.Bool.{cases_eq, eqb-true, eq-eqb}
use Rattle.std.proofs.lemmas.List.Elements.{All-contains, Contains-push, Contains-append_left, Contains-append_right, filter_passes}
use Rattle.std.proofs.lemmas.List.FromFn.{get_or-range_with_len}
use Rattle.std.proofs.lemmas.Nat.Bits.{bit_at-lt, same_from_bits_below}
use Rattle.dav_core.specs.declared.method.DavMethod.{DavMethod}
use Rattle.dav_core.specs.declared.method.DavMethod.TheVariants.{Head}
use Rattle.dav_core.specs.Method.{all_methods, place_of, Has, methods_in}
use Rattle.dav_core.proofs.MethodLemmas.{at_place, place_within}

-- what passes stays
filter_keeps : {X : Type 0} (p : X → Bool) (xs : List X) (k : ℕ) (d : X) → k < length xs → p (get_or xs k d) ≡ true → Contains (filter p xs) (get_or xs k d)
filter_keeps p [] k d within e = absurd (omega (arith, within))
filter_keeps p (x ∷ xs) zero d within e = rw e (Contains-append_left (x ∷ []) (filter p xs) x (Contains-push [] x))
filter_keeps p (x ∷ xs) (suc k) d within e =
    by (p x) (filter_keeps p xs k d (omega (arith, within)) e)
  where
    by : (t : Bool) → Contains (filter p xs) (get_or xs k d) → Contains (cond t (x ∷ filter p xs) (filter p xs)) (get_or xs k d)
    by true h = Contains-append_right (x ∷ []) (filter p xs) (get_or xs k d) h
    by false h = h

pub members_are_had : (set : ℕ) (m : DavMethod) → Contains (methods_in set) m ↔ Has set m
members_are_had set m = (
  λ h. eqb-true _ 1 (All-contains (λ n. (bit_at set (place_of n) == 1) ≡ true) (methods_in set) m (filter_passes (λ n. bit_at set (place_of n) == 1) all_methods) h),
  λ h. subst (Contains (methods_in set)) (at_place m m) (filter_keeps (λ n. bit_at set (place_of n) == 1) all_methods (place_of m) m (place_within m) (ap (λ n. bit_at set (place_of n) == 1) (at_place m m) ∙ eq-eqb _ 1 h)),
)

-- at each place there is a method whose place it is
method_there : (i : ℕ) → i < 16 → place_of (get_or all_methods i Head) ≡ i
method_there i within =
    sym (get_or-map place_of all_methods i Head) ∙ let all : map place_of all_methods ≡ range_with_len 0 16 = refl in ap (λ l. get_or l i 0) all ∙ get_or-range_with_len 0 16 i 0 within ∙ omega arith

-- a bit is 0 or 1
same_bit : (a b i : ℕ) → (bit_at a i ≡ 1) ↔ (bit_at b i ≡ 1) → bit_at a i ≡ bit_at b i
same_bit a b i same =
    elim (cases_eq (bit_at a i) 1) [
      | inl e ↦ e ∙ sym (same.0 e)
      | inr other ↦
          let unset : bit_at b i ≢ 1 = λ e. other (same.1 e) in
          omega (arith, other, unset, bit_at-lt a i, bit_at-lt b i)
    ]

pub same_set : (a b : ℕ) → a < 2 ^ 16 → b < 2 ^ 16 → ((m : DavMethod) → Has a m ↔ Has b m) → a ≡ b
same_set a b low high same =
    same_from_bits_below 16 a b low high
    (λ i within. subst (λ k. bit_at a k ≡ bit_at b k) (method_there i within) (same_bit a b (place_of (get_or all_methods i Head)) (same (get_or all_methods i Head))))
