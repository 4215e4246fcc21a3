-- The lock that a token and a path mean.
use Rattle.std.proofs.Common.{◌≡◌, ℕ, ◌+◌, ◌<◌, ◌||◌, Bool, true, false, cond, List, [], ◌∷◌, length, take, position, get_or, set, Option, Some, None, refl, sym, ap, subst, ◌∙◌, arith, zero, suc, ◌≤◌, below_more}
use Rattle.std.specs.List.{list_any, remove, find as first}
use Rattle.std.specs.Option.{option_map, option_and_then}
use Rattle.dav_core.specs.Lists.{without_first, change_first}
use Rattle.dav_core.specs.Path.{Path}
use Rattle.dav_core.specs.Locks.{Lock, has_token_at, lock_front, named_lock, unlocked, refreshed, refreshed_lock}
use Rattle.dav_store.specs.LockCalls.{IsNamedPlace}
use Rattle.dav_store.proofs.FrontLemmas.{first_front, no_front}
use Rattle.dav_store.proofs.Place.{NonePasses, none_passes, IsFirst, is_first, first_of}

none_any : {X : Type 0} (test : X → Bool) (xs : List X) → NonePasses test xs → list_any test xs ≡ false
none_any test [] h = refl
none_any test (x ∷ xs) h = ap (λ b. b || list_any test xs) h.0 ∙ none_any test xs h.1

some_any : {X : Type 0} (test : X → Bool) (xs : List X) (i : ℕ) (x : X) → IsFirst test xs i x → list_any test xs ≡ true
some_any test [] i x h = absurd h
some_any test (y ∷ xs) zero x h = ap (λ b. b || list_any test xs) h.0
some_any test (y ∷ xs) (suc i) x h = ap (λ b. b || list_any test xs) h.0 ∙ some_any test xs i x h.1

unfound : {X : Type 0} (test : X → Bool) (xs : List X) → position test xs ≡ None → list_any test xs ≡ false
unfound test xs h = none_any test xs (none_passes test xs h)

found : {X : Type 0} (test : X → Bool) (xs : List X) (i : ℕ) → position test xs ≡ Some i → list_any test xs ≡ true
found test [] i h = cc
found test (x ∷ xs) i h = some_any test (x ∷ xs) i _ (is_first test (x ∷ xs) i x h)

-- no lock with the token is on a shorter front
abbrev pub NoneNamed : List ℕ → Path → List Lock → ℕ → Type 0
NoneNamed token p ls n = (k : ℕ) → k < n → position (has_token_at token (take k p)) ls ≡ None

pub named_there : (token : List ℕ) (p : Path) (ls : List Lock) (n i : ℕ) → NoneNamed token p ls n → position (has_token_at token (take n p)) ls ≡ Some i
    → IsNamedPlace token p ls (Some i)
named_there token p ls n i none here =
    (take n p, first_front (λ q. list_any (has_token_at token q) ls) p n (λ k h. unfound (has_token_at token (take k p)) ls (none k h)) (found (has_token_at token (take n p)) ls i here), here)

pub named_nowhere : (token : List ℕ) (p : Path) (ls : List Lock) (n : ℕ) → length p ≤ n → NoneNamed token p ls n → position (has_token_at token (take n p)) ls ≡ None → lock_front token p ls ≡ None
named_nowhere token p ls n all none last =
    let every : NoneNamed token p ls (n + 1) = below_more _ _ none last in
    no_front (λ q. list_any (has_token_at token q) ls) p (λ k h. unfound (has_token_at token (take k p)) ls (every k (omega arith)))

left_out : (test : Lock → Bool) (ls : List Lock) (i : ℕ) (l : Lock) → IsFirst test ls i l → without_first test ls ≡ remove ls i
left_out test [] i l h = absurd h
left_out test (m ∷ ls) zero l h = ap (λ b. cond b ls (m ∷ without_first test ls)) h.0
left_out test (m ∷ ls) (suc i) l h = ap (λ b. cond b ls (m ∷ without_first test ls)) h.0 ∙ ap (λ (ms : List Lock). m ∷ ms) (left_out test ls i l h.1)

changed : (test : Lock → Bool) (f : Lock → Lock) (ls : List Lock) (i : ℕ) (l : Lock) → IsFirst test ls i l → change_first test f ls ≡ set ls i (f l)
changed test f [] i l h = absurd h
changed test f (m ∷ ls) zero l h = ap (λ b. cond b (f m ∷ ls) (m ∷ change_first test f ls)) h.0 ∙ ap (λ k. f k ∷ ls) h.1
changed test f (m ∷ ls) (suc i) l h = ap (λ b. cond b (f m ∷ ls) (m ∷ change_first test f ls)) h.0 ∙ ap (λ (ms : List Lock). m ∷ ms) (changed test f ls i l h.1)

any_lock : Lock
any_lock = record { token = []; path = record { prefix = []; bytes = [] }; principal = None; owner = None; timeout_at = None; timeout = None; shared = false; deep = false }

-- the list without the lock at the place that is meant
pub unlocked_at : (token : List ℕ) (p : Path) (ls seen : List Lock) (i : ℕ) → seen ≡ ls → IsNamedPlace token p seen (Some i) → unlocked token p ls ≡ Some (remove ls i)
unlocked_at token p ls seen i same named =
    let (q, front, here) : IsNamedPlace token p ls (Some i) = subst (λ (ms : List Lock). IsNamedPlace token p ms (Some i)) same named in
    ap (option_map (λ r. without_first (has_token_at token r) ls)) front
    ∙ ap (λ (ms : List Lock). Some ms) (left_out (has_token_at token q) ls i _ (is_first (has_token_at token q) ls i any_lock here))

-- the lock that is meant is at that place
pub named_lock_at : (token : List ℕ) (p : Path) (ls seen : List Lock) (i : ℕ) (l : Lock) → seen ≡ ls → IsNamedPlace token p seen (Some i) → l ≡ get_or ls i l → named_lock token p ls ≡ Some l
named_lock_at token p ls seen i l same named is =
    let (q, front, here) : IsNamedPlace token p ls (Some i) = subst (λ (ms : List Lock). IsNamedPlace token p ms (Some i)) same named in
    ap (option_and_then (λ r. first (has_token_at token r) ls)) front
    ∙ first_of (has_token_at token q) ls i _ (is_first (has_token_at token q) ls i l here) ∙ ap (λ k. Some k) (sym is)

-- the list with a new timeout of the lock that is meant
pub refreshed_at : (token : List ℕ) (p : Path) (timeout : Option ℕ) (now : ℕ) (ls seen : List Lock) (i : ℕ) (l : Lock) → seen ≡ ls → IsNamedPlace token p seen (Some i)
    → refreshed token p timeout now ls ≡ Some (set ls i (refreshed_lock timeout now (get_or ls i l)))
refreshed_at token p timeout now ls seen i l same named =
    let (q, front, here) : IsNamedPlace token p ls (Some i) = subst (λ (ms : List Lock). IsNamedPlace token p ms (Some i)) same named in
    ap (option_map (λ r. change_first (has_token_at token r) (refreshed_lock timeout now) ls)) front
    ∙ ap (λ (ms : List Lock). Some ms) (changed (has_token_at token q) (refreshed_lock timeout now) ls i _ (is_first (has_token_at token q) ls i l here))
