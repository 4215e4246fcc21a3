-- Methods, their places, and their bits in a set.
use Rattle.std.proofs.Common.{◌≡◌, ◌≢◌, ℕ, ◌+◌, ◌-◌, ◌*◌, ◌^◌, ◌<◌, ◌⊎◌, ◌↔◌, not, nat_eq, w32, IsTrue, get_or, refl, sym, ap, subst, ◌∙◌, inl, inr, arith}
use Rattle.std.specs.Int.{bit_at}
use Rattle.std.specs.Int.Bits.{bit_and, bit_or}
use Rattle.std.proofs.lemmas.Bool.{cases_eq, eq-eqb, ne_eqb, false≢true}
use Rattle.std.proofs.lemmas.Nat.{pow_below, pow_pos}
use Rattle.std.proofs.lemmas.Nat.Bits.{bit_at_and, bit_at_or, bit_at_not, bit_at-lt, bit_at-pow_same, bit_at-pow_other, and_pow}
use Rattle.dav_core.specs.declared.method.DavMethod.{DavMethod}
use Rattle.dav_core.specs.declared.method.DavMethod.TheVariants.{Head, Get, Put, Patch, Options, PropFind, PropPatch, MkCol, Copy, Move, Delete, Lock, Unlock, Report, MkCalendar, MkAddressbook}
use Rattle.dav_core.specs.Method.{all_methods, place_of, bit_of, Has}

-- a method is at its place
pub at_place : (m d : DavMethod) → get_or all_methods (place_of m) d ≡ m
at_place Head d = refl
at_place Get d = refl
at_place Put d = refl
at_place Patch d = refl
at_place Options d = refl
at_place PropFind d = refl
at_place PropPatch d = refl
at_place MkCol d = refl
at_place Copy d = refl
at_place Move d = refl
at_place Delete d = refl
at_place Lock d = refl
at_place Unlock d = refl
at_place Report d = refl
at_place MkCalendar d = refl
at_place MkAddressbook d = refl

pub place_within : (m : DavMethod) → place_of m < 16
place_within Head = omega arith
place_within Get = omega arith
place_within Put = omega arith
place_within Patch = omega arith
place_within Options = omega arith
place_within PropFind = omega arith
place_within PropPatch = omega arith
place_within MkCol = omega arith
place_within Copy = omega arith
place_within Move = omega arith
place_within Delete = omega arith
place_within Lock = omega arith
place_within Unlock = omega arith
place_within Report = omega arith
place_within MkCalendar = omega arith
place_within MkAddressbook = omega arith

-- what holds of the methods before a place, and of the one there, holds of those up to it
pub one_more : (P : DavMethod → Type 0) (i : ℕ) (d : DavMethod) → ((m : DavMethod) → place_of m < i → P m) → P (get_or all_methods i d) → (m : DavMethod) → place_of m < i + 1 → P m
one_more P i d before here m within =
    elim (cases_eq (place_of m) i) [
      | inl e ↦ subst P (ap (λ k. get_or all_methods k d) (sym e) ∙ at_place m d) here
      | inr apart ↦ before m (omega (arith, within, apart))
    ]

-- methods at one place are one
pub same_place : (m n : DavMethod) → place_of m ≡ place_of n → m ≡ n
same_place m n e = sym (at_place m m) ∙ ap (λ k. get_or all_methods k m) e ∙ at_place n m

-- the set with one more method
pub has_added : (s : ℕ) (n m : DavMethod) → Has (bit_or s (bit_of n)) m ↔ ((m ≡ n) ⊎ Has s m)
has_added s n m = (to, from)
  where
    to : Has (bit_or s (bit_of n)) m → (m ≡ n) ⊎ Has s m
    to h =
        elim (cases_eq (place_of m) (place_of n)) [
          | inl e ↦ inl (same_place m n e)
          | inr apart ↦ inr (omega (arith, h, bit_at_or s (bit_of n) (place_of m), bit_at-pow_other (place_of n) (place_of m) apart))
        ]

    from : (m ≡ n) ⊎ Has s m → Has (bit_or s (bit_of n)) m
    from (inl e) = rw e (omega (arith, bit_at_or s (bit_of n) (place_of n), bit_at-pow_same (place_of n), bit_at-lt s (place_of n)))
    from (inr h) = omega (arith, h, bit_at_or s (bit_of n) (place_of m), bit_at-lt (bit_of n) (place_of m))

-- the bits that stay where a method is taken out
kept_bit : (n m : DavMethod) → bit_at (4294967295 - bit_of n) (place_of m) ≡ 1 - bit_at (bit_of n) (place_of m)
kept_bit n m = bit_at_not w32 (bit_of n) (place_of m) (pow_below (place_of n) 32 (omega (arith, place_within n))) (omega (arith, place_within m))

-- the set without a method
pub has_removed : (s : ℕ) (n m : DavMethod) → Has (bit_and s (4294967295 - bit_of n)) m ↔ ((m ≢ n) × Has s m)
has_removed s n m = (to, from)
  where
    to : Has (bit_and s (4294967295 - bit_of n)) m → (m ≢ n) × Has s m
    to h = (
      λ e. omega (arith, h, bit_at_and s (4294967295 - bit_of n) (place_of m), kept_bit n m, ap (λ k. bit_at (bit_of n) (place_of k)) e, bit_at-pow_same (place_of n)),
      omega (arith, h, bit_at_and s (4294967295 - bit_of n) (place_of m), bit_at-lt s (place_of m), kept_bit n m),
    )

    from : (m ≢ n) × Has s m → Has (bit_and s (4294967295 - bit_of n)) m
    from h =
        omega (arith, h.1, bit_at_and s (4294967295 - bit_of n) (place_of m), kept_bit n m, bit_at-pow_other (place_of n) (place_of m) (λ e. h.0 (same_place m n e)))

-- the test of a method's bit
pub has_tested : (s : ℕ) (m : DavMethod) → IsTrue (not (nat_eq (bit_and s (bit_of m)) 0)) ↔ Has s m
has_tested s m =
    elim (cases_eq (bit_at s (place_of m)) 1) [
      | inl e ↦
          let is : bit_and s (bit_of m) ≡ 1 * 2 ^ place_of m = and_pow s (place_of m) ∙ ap (λ k. k * 2 ^ place_of m) e in
          (λ _. e, λ _. rw (ne_eqb (bit_and s (bit_of m)) 0 (omega (arith, is, pow_pos (place_of m)))) refl)
      | inr other ↦
          let unset : bit_at s (place_of m) ≡ 0 = omega (arith, other, bit_at-lt s (place_of m)) in
          let is : bit_and s (bit_of m) ≡ 0 * 2 ^ place_of m = and_pow s (place_of m) ∙ ap (λ k. k * 2 ^ place_of m) unset in
          let none : bit_and s (bit_of m) ≡ 0 = omega (arith, is) in
          (λ t. absurd (false≢true (rw (eq-eqb (bit_and s (bit_of m)) 0 none) at t)), λ h. absurd (other h))
    ]
