-- The place of the lock with a token on a path, by how many locks are counted there.
use Rattle.std.proofs.Common.{◌≡◌, ℕ, zero, suc, ◌+◌, ◌≤◌, ◌<◌, ◌&&◌, Bool, true, false, cond, List, [], ◌∷◌, ◌++◌, length, take, get_or, slice_get, bytes_eq, position, Option, Some, None, IfSome, MatchOption, refl, sym, ap, subst, ◌∙◌, arith, append-nil, append_assoc, add-one}
use Rattle.std.specs.Borrow.{Bor}
use Rattle.std.specs.Option.{unwrap_or, option_and_then}
use Rattle.std.specs.List.{position_from}
use Rattle.std.proofs.lemmas.List.{length-take, take_all}
use Rattle.std.proofs.lemmas.Iterator.Adapters.{position_from-zero}
use Rattle.std.proofs.lemmas.List.Sums.{sum_by-cons}
use Rattle.dav_core.specs.Path.{Path, names, is_same_path}
use Rattle.dav_core.specs.Locks.{Lock, has_token_at}
use Rattle.dav_core.proofs.Theorems.{same_path}
use Rattle.dav_store.specs.Placed.{named as child, found}
use Rattle.dav_store.specs.LockIndex.{Seats, at_key, times, path_keys, tally}
use Rattle.dav_store.proofs.EntryLemmas.{one_more}
use Rattle.dav_store.proofs.IndexSound.{of_one, seated_on}
use Rattle.dav_store.proofs.Place.{NonePasses, IsFirst}

from_nowhere : {E : Type 0} (test : E → Bool) (xs : List E) (i : ℕ) → NonePasses test xs → position_from test i xs ≡ None
from_nowhere test [] i h = refl
from_nowhere test (x ∷ xs) i h = ap (λ b. cond b (Some i) (position_from test (i + 1) xs)) h.0 ∙ from_nowhere test xs (i + 1) h.1

-- where no place passes, there is no first one
pub nowhere : {E : Type 0} (test : E → Bool) (xs : List E) → NonePasses test xs → position test xs ≡ None
nowhere test xs h = position_from-zero test xs ∙ from_nowhere test xs 0 h

from_place : {E : Type 0} (test : E → Bool) (xs : List E) (i k : ℕ) (e : E) → IsFirst test xs k e → position_from test i xs ≡ Some (i + k)
from_place test [] i k e h = absurd h
from_place test (x ∷ xs) i zero e h = ap (λ b. cond b (Some i) (position_from test (i + 1) xs)) h.0 ∙ ap Some (omega arith)
from_place test (x ∷ xs) i (suc k) e h =
    ap (λ b. cond b (Some i) (position_from test (i + 1) xs)) h.0 ∙ from_place test xs (i + 1) k e h.1 ∙ ap Some (omega arith)

-- the first place that passes is what `position` returns
pub place : {E : Type 0} (test : E → Bool) (xs : List E) (k : ℕ) (e : E) → IsFirst test xs k e → position test xs ≡ Some k
place test xs k e h = position_from-zero test xs ∙ from_place test xs 0 k e h ∙ ap Some (omega arith)

both_true : (a b : Bool) → a ≡ true → b ≡ true → (a && b) ≡ true
both_true a b h k = ap (λ c. c && b) h ∙ k

second_false : (a b : Bool) → b ≡ false → (a && b) ≡ false
second_false true b h = h
second_false false b h = refl

first_false : (a b : Bool) → a ≡ false → (a && b) ≡ false
first_false a b h = ap (λ c. c && b) h

none_below : {A : Type 0} (i : ℕ) → i < 0 → A
none_below i h = absurd (omega arith)

inner : {X : Type 0} (x y : X) → Some x ≡ Some y → x ≡ y
inner x y e = ap (λ o. unwrap_or o x) e

suc_less : (i n : ℕ) → i < n → suc i < suc n
suc_less i n h = omega arith

-- what is in a slice at a place
pub slice_there : {X : Type 0} (xs : List X) (i : ℕ) (x : X) → slice_get xs i ≡ Some x → (i < length xs) × (get_or xs i x ≡ x)
slice_there [] i x e = cc
slice_there (y ∷ ys) zero x e = (omega arith, inner y x e)
slice_there (y ∷ ys) (suc i) x e = let r = slice_there ys i x e in (suc_less i (length ys) r.0, r.1)

parted : (x y : List ℕ) (p q : Path) → x ∷ p ≡ y ∷ q → (x ≡ y) × (p ≡ q)
parted x y p q e = (cc, cc)

-- one name more of a path
pub name_more : (p : Path) (n : ℕ) (x : List ℕ) (rest : Path) → n ≤ length p → take n p ++ x ∷ rest ≡ p → take (suc n) p ≡ take n p ++ x ∷ []
name_more [] zero x rest h is = cc
name_more [] (suc n) x rest h is = absurd (omega arith)
name_more (y ∷ p) zero x rest h is = ap (λ (z : List ℕ). z ∷ []) (sym (parted x y rest p is).0)
name_more (y ∷ p) (suc n) x rest h is = ap (λ (q : Path). y ∷ q) (name_more p n x rest (omega arith) (parted y y (take n p ++ x ∷ rest) p is).1)

-- a path of which nothing is left
pub names_done : (p : Path) (n : ℕ) → take n p ++ [] ≡ p → length p ≤ n
names_done p n is =
    let a = ap length (sym (append-nil (take n p)) ∙ is) in
    let b = length-take n p in
    omega (arith, a, b)

-- a walk along a path goes on by one name, where one is left
pub walk_on : (t : Seats) (p : Path) (n : ℕ) (left rest : Path) (r : Option (Bor (List ℕ))) (at new : Option ℕ) → take n p ++ left ≡ p
    → (n ≤ length p → at ≡ found t (take n p)) → n ≤ length p → MatchOption r ((left ≡ []) × (rest ≡ [])) (λ x. left ≡ x.now ∷ rest)
    → IfSome r (λ x. new ≡ option_and_then (λ m. child t m x.now) at)
    → (take (n + 1) p ++ rest ≡ p) × (n + 1 ≤ length p → new ≡ found t (take (n + 1) p))
walk_on t p n left rest None at new whole here bound (l, r) below =
    let done = names_done p n (subst (λ (q : Path). take n p ++ q ≡ p) l whole) in (
      subst (λ (q : Path). take (n + 1) p ++ q ≡ p) (sym r) (append-nil (take (n + 1) p) ∙ take_all (n + 1) p (omega (arith, done))),
      λ h. absurd (omega (arith, done, h)),
    )
walk_on t p n left rest (Some x) at new whole here bound cut below =
    let w = subst (λ (q : Path). take n p ++ q ≡ p) cut whole in
    let more : take (n + 1) p ≡ take n p ++ x.now ∷ [] = ap (λ k. take k p) (add-one n) ∙ name_more p n x.now rest bound w in (
      ap (λ (q : Path). q ++ rest) more ∙ append_assoc (take n p) (x.now ∷ []) rest ∙ w,
      λ h. one_more t (take n p) x.now at new (here bound) below ∙ ap (found t) (sym more),
    )

less_suc : (i n : ℕ) → suc i < suc n → i < n
less_suc i n h = omega arith

module _ (q : Path) where
  -- whether a lock is on the path
  abbrev on : Lock → Bool
  on l = is_same_path (names l.path) q

  one_counts : (l : Lock) → on l ≡ true → 1 ≤ of_one l (at_key q)
  one_counts l h =
      subst (λ (p : Path). 1 ≤ of_one l (at_key p)) (same_path (names l.path) q h)
      (seated_on (of_one l) l.deep [] (names l.path) (λ k. omega arith))

  tally_more : (l : Lock) (ls : List Lock) → tally (at_key q) (l ∷ ls) ≡ of_one l (at_key q) + tally (at_key q) ls
  tally_more l ls = sum_by-cons (λ (x : Lock). times (at_key q) (path_keys x.deep (names x.path))) l ls

  away_by : (l : Lock) (b : Bool) → on l ≡ b → of_one l (at_key q) ≤ 0 → b ≡ false
  away_by l true is h = let a = one_counts l is in absurd (omega (arith, a, h))
  away_by l false is h = refl

  -- one that isn't counted there isn't on the path
  away : (l : Lock) → of_one l (at_key q) ≤ 0 → on l ≡ false
  away l h = away_by l (on l) refl h

  -- a lock of the list that is on the path counts
  some_count : (ls : List Lock) (i : ℕ) (l : Lock) → i < length ls → get_or ls i l ≡ l → on l ≡ true → 1 ≤ tally (at_key q) ls
  some_count [] i l bound is here = none_below i bound
  some_count (x ∷ ls) zero l bound is here =
      let a = tally_more x ls in
      let b = one_counts x (ap on is ∙ here) in
      omega (arith, a, b)
  some_count (x ∷ ls) (suc i) l bound is here =
      let a = tally_more x ls in
      let b = some_count ls i l (less_suc i (length ls) bound) is here in
      omega (arith, a, b)

  module _ (token : List ℕ) where
    abbrev named : Lock → Bool
    named l = has_token_at token q l

    -- where no lock is counted, none is on the path
    none_passes : (ls : List Lock) → tally (at_key q) ls ≤ 0 → NonePasses named ls
    none_passes [] h = tt
    none_passes (l ∷ ls) h =
        let a = tally_more l ls in
        (second_false (bytes_eq l.token token) (on l) (away l (omega (arith, a, h))), none_passes ls (omega (arith, a, h)))

    pub none_named : (ls : List Lock) → tally (at_key q) ls ≡ 0 → position named ls ≡ None
    none_named ls h = nowhere named ls (none_passes ls (omega (arith, h)))

    -- where one is counted, it is the only one on the path
    sole_passes : (ls : List Lock) (i : ℕ) (l : Lock) → i < length ls → get_or ls i l ≡ l → on l ≡ true → tally (at_key q) ls ≤ 1
        → bytes_eq l.token token ≡ true → IsFirst named ls i l
    sole_passes [] i l bound is here h same = none_below i bound
    sole_passes (x ∷ ls) zero l bound is here h same =
        (ap named is ∙ both_true (bytes_eq l.token token) (on l) same here, is)
    sole_passes (x ∷ ls) (suc i) l bound is here h same =
        let a = tally_more x ls in
        let b = some_count ls i l (less_suc i (length ls) bound) is here in (
          second_false (bytes_eq x.token token) (on x) (away x (omega (arith, a, b, h))),
          sole_passes ls i l (less_suc i (length ls) bound) is here (omega (arith, a, h)) same,
        )

    sole_fails : (ls : List Lock) (i : ℕ) (l : Lock) → i < length ls → get_or ls i l ≡ l → on l ≡ true → tally (at_key q) ls ≤ 1
        → bytes_eq l.token token ≡ false → NonePasses named ls
    sole_fails [] i l bound is here h other = none_below i bound
    sole_fails (x ∷ ls) zero l bound is here h other =
        let a = tally_more x ls in
        let b = one_counts x (ap on is ∙ here) in
        (ap named is ∙ first_false (bytes_eq l.token token) (on l) other, none_passes ls (omega (arith, a, b, h)))
    sole_fails (x ∷ ls) (suc i) l bound is here h other =
        let a = tally_more x ls in
        let b = some_count ls i l (less_suc i (length ls) bound) is here in (
          second_false (bytes_eq x.token token) (on x) (away x (omega (arith, a, b, h))),
          sole_fails ls i l (less_suc i (length ls) bound) is here (omega (arith, a, h)) other,
        )

    pub sole_named : (ls : List Lock) (i : ℕ) (l : Lock) → i < length ls → get_or ls i l ≡ l → on l ≡ true → tally (at_key q) ls ≡ 1
        → bytes_eq l.token token ≡ true → position named ls ≡ Some i
    sole_named ls i l bound is here h same = place named ls i l (sole_passes ls i l bound is here (omega (arith, h)) same)

    -- the same, as the code looks
    pub looked_same : (ls : List Lock) (i : ℕ) (l : Lock) → (slice_get ls i ≡ Some l) × (on l ≡ true) → tally (at_key q) ls ≡ 1
        → bytes_eq l.token token ≡ true → position named ls ≡ Some i
    looked_same ls i l there h same = let r = slice_there ls i l there.0 in sole_named ls i l r.0 r.1 there.1 h same

    pub sole_other : (ls : List Lock) (i : ℕ) (l : Lock) → i < length ls → get_or ls i l ≡ l → on l ≡ true → tally (at_key q) ls ≡ 1
        → bytes_eq l.token token ≡ false → position named ls ≡ None
    sole_other ls i l bound is here h other = nowhere named ls (sole_fails ls i l bound is here (omega (arith, h)) other)

    pub looked_other : (ls : List Lock) (i : ℕ) (l : Lock) → (slice_get ls i ≡ Some l) × (on l ≡ true) → tally (at_key q) ls ≡ 1
        → bytes_eq l.token token ≡ false → position named ls ≡ None
    looked_other ls i l there h other = let r = slice_there ls i l there.0 in sole_other ls i l r.0 r.1 there.1 h other
