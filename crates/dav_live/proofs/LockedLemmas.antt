-- Which lock keeps a request out.
use Rattle.std.proofs.Common.{◌≡◌, ℕ, ◌+◌, ◌<◌, ◌≤◌, ◌||◌, Bool, true, false, not, List, [], ◌∷◌, ◌++◌, Contains, MatchOption, Option, Some, None, length, take, slice_index_or, refl, sym, ap, subst, ◌∙◌, arith, append_assoc}
use Rattle.std.proofs.lemmas.Bool.{or_parts}
use Rattle.std.proofs.lemmas.Grind.{take_at_read}
use Rattle.std.proofs.lemmas.List.{take_all}
use Rattle.std.specs.List.{list_any}
use Rattle.dav_core.specs.Locks.{Checks, Lock, Requester, conflicting, conflicts, free, is_free_for}
use Rattle.dav_core.specs.Path.{Path}
use Rattle.std.specs.Prelude.{Result, Ok, Err}

-- ---- one place after another

none_append : {X : Type 0} (test : X → Bool) (ys : List X) (y : X) → list_any test ys ≡ false → test y ≡ false → list_any test (ys ++ y ∷ []) ≡ false
none_append test [] y none this = rw this refl
none_append test (z ∷ zs) y none this = let parts = or_parts (test z) (list_any test zs) none in rw parts.0 (none_append test zs y parts.1 this)

pub none_turn : {X : Type 0} (test : X → Bool) (xs : List X) (i : ℕ) (x : X) → i < length xs → x ≡ slice_index_or xs i x
    → list_any test (take i xs) ≡ false → test x ≡ false → list_any test (take (i + 1) xs) ≡ false
none_turn {X} test xs i x lt is none this =
    ap (list_any test) ((take_at_read xs i x lt).1 ∙ ap (λ (y : X). take i xs ++ y ∷ []) (sym is)) ∙ none_append test (take i xs) x none this

pub none_end : {X : Type 0} (test : X → Bool) (xs : List X) (i : ℕ) → length xs ≤ i → list_any test (take i xs) ≡ false → list_any test xs ≡ false
none_end test xs i end none = ap (list_any test) (sym (take_all i xs end)) ∙ none

-- ---- what may be there

pub at_some : {A : Type 0} (N : Type 0) (P : A → Type 0) (o : Option A) (a : A) → o ≡ Some a → MatchOption o N P → P a
at_some {A} N P o a is m = subst (λ (t : Option A). MatchOption t N P) is m

pub at_none : {A N : Type 0} (P : A → Type 0) (o : Option A) → o ≡ None → MatchOption o N P → N
at_none {A} {N} P o is m = subst (λ (t : Option A). MatchOption t N P) is m

-- ---- what a check says

pub is_free : (deep : Bool) (who : Requester) (p : Path) (ls : List Lock) (r : Result (Unit {0}) Lock) (u : Unit {0}) → r ≡ Ok u → Checks deep who p ls r → not (is_free_for deep who p ls) ≡ false
is_free deep who p ls _ u is (free holds) = ap not holds
is_free deep who p ls _ u is (conflicting in-list hits) = absurd (cc)

pub is_in_way : (deep : Bool) (who : Requester) (p : Path) (ls : List Lock) (r : Result (Unit {0}) Lock) (m : Lock) → r ≡ Err m → Checks deep who p ls r
    → Contains ls m × (conflicts deep who p ls m ≡ true)
is_in_way deep who p ls _ m is (free holds) = absurd (cc)
is_in_way deep who p ls _ m is (conflicting {l} in-list hits) = let same : l ≡ m = cc in subst (λ (x : Lock). Contains ls x × (conflicts deep who p ls x ≡ true)) same (in-list, hits)
