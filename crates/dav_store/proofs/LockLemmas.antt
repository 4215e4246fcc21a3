-- Lists of locks in memory.
use Rattle.std.proofs.Common.{◌≡◌, ℕ, ◌≤◌, ◌&&◌, ◌||◌, nat_lt, Bool, true, false, cond, not, List, [], ◌∷◌, length, map, Contains, get_or, Some, None, refl, sym, ap, subst, ◌∙◌}
use Rattle.std.specs.List.{list_any, list_all, find, position, position_or_len, slice_get}
use Rattle.std.proofs.lemmas.Bool.{ltb-false}
use Rattle.std.proofs.lemmas.List.Folds.{find_at}
use Rattle.std.proofs.lemmas.List.Quantifiers.{position-Some}
use Rattle.std.proofs.lemmas.Option.{slice_get-get_or, slice_get_past}
use Rattle.dav_core.specs.Path.{Path, names, is_under, is_at_or_under}
use Rattle.dav_core.specs.Locks.{Lock, Requester, covers, is_held, is_free_for, conflicts, is_grantable}
use Rattle.dav_core.proofs.Theorems.{some_held, free_is_no_conflict, grantable_by_tests}
use Rattle.dav_store.proofs.Place.{NonePasses, none_passes}

-- a test on the bytes of texts is one on the texts
pub any_mapped : {S X : Type 0} (f : S → X) (test : X → Bool) (xs : List S) → list_any (λ x. test (f x)) xs ≡ list_any test (map f xs)
any_mapped f test [] = refl
any_mapped f test (x ∷ xs) = ap (λ b. test (f x) || b) (any_mapped f test xs)

abbrev conflicting : Bool → Requester → Path → Bool → Lock → Bool
conflicting deep who p some l = not (is_held who l) && ((covers l p && (not l.shared || not some)) || (deep && is_at_or_under (names l.path) p))

all_step : (b c : Bool) → b ≡ false → c ≡ true → (not b && c) ≡ true
all_step true c h k = cc
all_step false c h k = k

none_true : {X : Type 0} (test : X → Bool) (xs : List X) → NonePasses test xs → list_all (λ x. not (test x)) xs ≡ true
none_true test [] h = refl
none_true test (x ∷ xs) h = all_step (test x) _ h.0 (none_true test xs h.1)

-- where no lock is found to conflict, the path is free
pub free_if_none : (deep : Bool) (who : Requester) (p : Path) (ls : List Lock) (some : Bool)
    → some ≡ list_any (λ l. covers l p && is_held who l) ls → position (conflicting deep who p some) ls ≡ None → is_free_for deep who p ls ≡ true
free_if_none deep who p ls some held none =
    let all : position (conflicts deep who p ls) ls ≡ None = subst (λ b. position (conflicting deep who p b) ls ≡ None) (held ∙ sym (some_held who p ls)) none in
    free_is_no_conflict deep who p ls ∙ none_true (conflicts deep who p ls) ls (none_passes (conflicts deep who p ls) ls all)

-- a lock that is found is in the list, and conflicts
pub conflict_if_some : (deep : Bool) (who : Requester) (p : Path) (ls : List Lock) (some : Bool) (i : ℕ) (l : Lock)
    → some ≡ list_any (λ m. covers m p && is_held who m) ls → position (conflicting deep who p some) ls ≡ Some i → l ≡ get_or ls i l
    → Contains ls l × (conflicts deep who p ls l ≡ true)
conflict_if_some deep who p ls some i l held found is =
    let here : position (conflicts deep who p ls) ls ≡ Some i = subst (λ b. position (conflicting deep who p b) ls ≡ Some i) (held ∙ sym (some_held who p ls)) found in
    let at = position-Some (conflicts deep who p ls) ls i l here in
    ((i, at.0, sym is), subst (λ (m : Lock). conflicts deep who p ls m ≡ true) (sym is) at.1)

-- where no lock conflicts with it, a new one may be granted
pub grantable_if_none : (a deep b : Bool) → (a || (deep && b)) ≡ false → (not a && not (deep && b)) ≡ true
grantable_if_none true deep b h = cc
grantable_if_none false deep b h = ap not h

not_grantable_if_some : (a deep b : Bool) → (a || (deep && b)) ≡ true → (not a && not (deep && b)) ≡ false
not_grantable_if_some true deep b h = refl
not_grantable_if_some false deep b h = ap not h

-- where the tests of the code find no lock that conflicts with a new one, it may be granted
pub grantable_seen : (new : Lock) (ls seen : List Lock) → seen ≡ ls
    → (list_any (λ l. covers l (names new.path) && not (l.shared && new.shared)) seen || (new.deep && list_any (λ l. is_under (names l.path) (names new.path)) seen)) ≡ false
    → is_grantable new ls ≡ true
grantable_seen new ls seen same none = subst (λ (ms : List Lock). is_grantable new ms ≡ true) same (grantable_by_tests new seen ∙ grantable_if_none _ new.deep _ none)

-- and where they find one, it may not
pub conflict_seen : (new : Lock) (ls seen : List Lock) → seen ≡ ls
    → (list_any (λ l. covers l (names new.path) && not (l.shared && new.shared)) seen || (new.deep && list_any (λ l. is_under (names l.path) (names new.path)) seen)) ≡ true
    → is_grantable new ls ≡ false
conflict_seen new ls seen same some = subst (λ (ms : List Lock). is_grantable new ms ≡ false) same (grantable_by_tests new seen ∙ not_grantable_if_some _ new.deep _ some)

-- ---- the first that passes a test

-- where none passes, none is found
pub none_found : {X : Type 0} (p : X → Bool) (xs : List X) → position p xs ≡ None → find p xs ≡ None
none_found p xs none = find_at p xs ∙ slice_get_past xs (position_or_len p xs) (by_test (nat_lt (position_or_len p xs) (length xs)) refl none)
  where
    by_test : (t : Bool) → nat_lt (position_or_len p xs) (length xs) ≡ t → cond t (Some (position_or_len p xs)) None ≡ None → length xs ≤ position_or_len p xs
    by_test true is e = absurd cc
    by_test false is e = ltb-false (position_or_len p xs) (length xs) is

-- the first that passes is found
pub first_found : {X : Type 0} (p : X → Bool) (xs : List X) (i : ℕ) (x : X) → position p xs ≡ Some i → x ≡ get_or xs i x → find p xs ≡ Some x
first_found {X = X} p xs i x found is = find_at p xs ∙ by_test (nat_lt (position_or_len p xs) (length xs)) found
  where
    by_test : (t : Bool) → cond t (Some (position_or_len p xs)) None ≡ Some i → slice_get xs (position_or_len p xs) ≡ Some x
    by_test true e =
        let same : position_or_len p xs ≡ i = cc in
        ap (slice_get xs) same ∙ slice_get-get_or xs i x (position-Some p xs i x found).0 ∙ ap (λ (y : X). Some y) (sym is)
    by_test false e = absurd cc
