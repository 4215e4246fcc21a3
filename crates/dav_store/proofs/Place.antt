-- Places in a list of keys and values, and what is there.
use Rattle.std.proofs.Common.{◌≡◌, ℕ, zero, suc, ◌+◌, ◌<◌, Bool, true, false, cond, List, [], ◌∷◌, ◌++◌, length, get_or, set, Some, None, refl, sym, ap, subst, ◌∙◌, arith}
use Rattle.std.specs.List.{position, position_from, insert, find as first}
use Rattle.std.specs.FinMap.{find, put}
use Rattle.std.specs.FinMap.Entries.{by_order}
use Rattle.std.specs.declared.cmp.Ordering.{Ordering}
use Rattle.std.specs.declared.cmp.Ordering.TheVariants.{Less, Equal, Greater}
use Rattle.std.specs.Ordering.{is_eq, is_le}
use Rattle.std.proofs.lemmas.List.Quantifiers.{position-Some}
use Rattle.std.proofs.lemmas.Iterator.Adapters.{position_from-zero}

-- i is the first place that passes, and e is what is there
abbrev pub IsFirst : {E : Type 0} → (E → Bool) → List E → ℕ → E → Type 0
IsFirst test [] i e = ⊥
IsFirst test (x ∷ xs) zero e = (test x ≡ true) × (x ≡ e)
IsFirst test (x ∷ xs) (suc i) e = (test x ≡ false) × IsFirst test xs i e

-- no place passes
abbrev pub NonePasses : {E : Type 0} → (E → Bool) → List E → Type 0
NonePasses test [] = Unit {0}
NonePasses test (x ∷ xs) = (test x ≡ false) × NonePasses test xs

less_suc : (i n : ℕ) → suc i < suc n → i < n
less_suc i n h = omega arith

suc_less : (k i : ℕ) → k < i → suc k < suc i
suc_less k i h = omega arith

none_below : {A : Type 0} (i : ℕ) → i < 0 → A
none_below i h = absurd (omega arith)

pub first_at : {E : Type 0} (test : E → Bool) (xs : List E) (i : ℕ) (d : E) → i < length xs → test (get_or xs i d) ≡ true
    → ((k : ℕ) → k < i → test (get_or xs k d) ≡ false) → IsFirst test xs i (get_or xs i d)
first_at test [] i d within here before = none_below i within
first_at test (x ∷ xs) zero d within here before = (here, refl)
first_at test (x ∷ xs) (suc i) d within here before =
    (before 0 (omega arith), first_at test xs i d (less_suc i (length xs) within) here (λ k h. before (suc k) (suc_less k i h)))

-- what `position` returns is the first place
pub is_first : {E : Type 0} (test : E → Bool) (xs : List E) (i : ℕ) (d : E) → position test xs ≡ Some i → IsFirst test xs i (get_or xs i d)
is_first test xs i d h =
    let p = position-Some test xs i d h in
    first_at test xs i d p.0 p.1 p.2

none_step : {E : Type 0} (test : E → Bool) (x : E) (xs : List E) (i : ℕ) (b : Bool) → test x ≡ b
    → (position_from test (i + 1) xs ≡ None → NonePasses test xs) → cond b (Some i) (position_from test (i + 1) xs) ≡ None → NonePasses test (x ∷ xs)
none_step test x xs i true e rest h = cc
none_step test x xs i false e rest h = (e, rest h)

from_none : {E : Type 0} (test : E → Bool) (xs : List E) (i : ℕ) → position_from test i xs ≡ None → NonePasses test xs
from_none test [] i h = tt
from_none test (x ∷ xs) i h = none_step test x xs i (test x) refl (from_none test xs (i + 1)) h

-- where `position` returns none, no place passes
pub none_passes : {E : Type 0} (test : E → Bool) (xs : List E) → position test xs ≡ None → NonePasses test xs
none_passes test xs h = from_none test xs 0 (sym (position_from-zero test xs) ∙ h)

-- there is one entry at a place
pub first_one : {E : Type 0} (test : E → Bool) (xs : List E) (i : ℕ) (a b : E) → IsFirst test xs i a → IsFirst test xs i b → a ≡ b
first_one test [] i a b h k = absurd h
first_one test (x ∷ xs) zero a b h k = sym h.1 ∙ k.1
first_one test (x ∷ xs) (suc i) a b h k = first_one test xs i a b h.1 k.1

-- the first place, with the entry that an index read there
pub is_first_at : {E : Type 0} (test : E → Bool) (xs : List E) (i : ℕ) (e : E) → position test xs ≡ Some i → e ≡ get_or xs i e → IsFirst test xs i e
is_first_at test xs i e h is = subst (IsFirst test xs i) (sym is) (is_first test xs i e h)

module _ {K X : Type 0} (R : K → K → Ordering) where
  pub find_at : (k : K) (xs : List (K × X)) (i : ℕ) (e : K × X) → IsFirst (λ y. is_eq (R k y.0)) xs i e → find R k xs ≡ Some e.1
  find_at k [] i e h = absurd h
  find_at k (x ∷ xs) zero e h = ap (λ b. cond b (Some x.1) (find R k xs)) h.0 ∙ ap (λ (y : K × X). Some y.1) h.1
  find_at k (x ∷ xs) (suc i) e h = ap (λ b. cond b (Some x.1) (find R k xs)) h.0 ∙ find_at k xs i e h.1

  pub find_none : (k : K) (xs : List (K × X)) → NonePasses (λ y. is_eq (R k y.0)) xs → find R k xs ≡ None
  find_none k [] h = refl
  find_none k (x ∷ xs) h = ap (λ b. cond b (Some x.1) (find R k xs)) h.0 ∙ find_none k xs h.1

-- where a key is after another one, the third of the cases is taken
not_after : {A : Type 0} (o : Ordering) (a b c : A) → is_le o ≡ false → by_order o a b c ≡ c
not_after Less a b c h = cc
not_after Equal a b c h = cc
not_after Greater a b c h = refl

goes_before : {A : Type 0} (o : Ordering) (a b c : A) → is_le o ≡ true → is_eq o ≡ false → by_order o a b c ≡ a
goes_before Less a b c h k = refl
goes_before Equal a b c h k = cc
goes_before Greater a b c h k = cc

ties : {A : Type 0} (o : Ordering) (a b c : A) → is_eq o ≡ true → by_order o a b c ≡ b
ties Less a b c h = cc
ties Equal a b c h = refl
ties Greater a b c h = cc

module _ {K X : Type 0} (R : K → K → Ordering) where
  -- a new entry is inserted at the first place whose key isn't before it
  pub put_inserts : (k : K) (v : X) (xs : List (K × X)) (i : ℕ) (e : K × X) → IsFirst (λ y. is_le (R k y.0)) xs i e → is_eq (R k e.0) ≡ false
      → insert xs i (k, v) ≡ put R k v xs
  put_inserts k v [] i e h other = absurd h
  put_inserts k v (x ∷ xs) zero e h other =
      sym (goes_before (R k x.0) ((k, v) ∷ x ∷ xs) ((x.0, v) ∷ xs) (x ∷ put R k v xs) h.0
      (ap (λ (z : K × X). is_eq (R k z.0)) h.1 ∙ other))
  put_inserts k v (x ∷ xs) (suc i) e h other =
      ap (λ (ns : List (K × X)). x ∷ ns) (put_inserts k v xs i e h.1 other)
      ∙ sym (not_after (R k x.0) ((k, v) ∷ x ∷ xs) ((x.0, v) ∷ xs) (x ∷ put R k v xs) h.0)

  -- an entry with the same key is replaced
  pub put_replaces : (k : K) (v : X) (xs : List (K × X)) (i : ℕ) (e : K × X) → IsFirst (λ y. is_le (R k y.0)) xs i e → is_eq (R k e.0) ≡ true
      → set xs i (e.0, v) ≡ put R k v xs
  put_replaces k v [] i e h same = absurd h
  put_replaces k v (x ∷ xs) zero e h same =
      ap (λ (z : K × X). (z.0, v) ∷ xs) (sym h.1)
      ∙ sym (ties (R k x.0) ((k, v) ∷ x ∷ xs) ((x.0, v) ∷ xs) (x ∷ put R k v xs)
      (ap (λ (z : K × X). is_eq (R k z.0)) h.1 ∙ same))
  put_replaces k v (x ∷ xs) (suc i) e h same =
      ap (λ (ns : List (K × X)). x ∷ ns) (put_replaces k v xs i e h.1 same)
      ∙ sym (not_after (R k x.0) ((k, v) ∷ x ∷ xs) ((x.0, v) ∷ xs) (x ∷ put R k v xs) h.0)

  -- a key that is after all others is added at the end
  pub put_pushes : (k : K) (v : X) (xs : List (K × X)) → NonePasses (λ y. is_le (R k y.0)) xs
      → xs ++ (k, v) ∷ [] ≡ put R k v xs
  put_pushes k v [] h = refl
  put_pushes k v (x ∷ xs) h =
      ap (λ (ns : List (K × X)). x ∷ ns) (put_pushes k v xs h.1)
      ∙ sym (not_after (R k x.0) ((k, v) ∷ x ∷ xs) ((x.0, v) ∷ xs) (x ∷ put R k v xs) h.0)

-- the first entry that passes
pub first_of : {E : Type 0} (test : E → Bool) (xs : List E) (i : ℕ) (e : E) → IsFirst test xs i e → first test xs ≡ Some e
first_of test [] i e h = absurd h
first_of test (x ∷ xs) zero e h = ap (λ b. cond b (Some x) (first test xs)) h.0 ∙ ap Some h.1
first_of test (x ∷ xs) (suc i) e h = ap (λ b. cond b (Some x) (first test xs)) h.0 ∙ first_of test xs i e h.1
