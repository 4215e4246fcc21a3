-- Grants and refreshes in a list of locks that a guard guards.
use Rattle.std.proofs.Common.{◌≡◌, ◌≢◌, ◌&&◌, ◌||◌, ◌++◌, ℕ, Bool, true, false, not, true≢false, cond, List, [], ◌∷◌, Option, Some, refl, sym, ap, subst, ◌∙◌, arith}
use Rattle.std.specs.List.{list_all, list_any, find as first}
use Rattle.std.specs.Option.{option_map, option_and_then}
use Rattle.std.proofs.lemmas.Bool.{and_parts}
use Rattle.dav_core.specs.LockLaws.{CoveringAreShared}
use Rattle.dav_core.specs.Lists.{change_first}
use Rattle.dav_core.specs.Locks.{Lock, covers, covering, is_grantable, has_token_at, lock_front, named_lock, refreshed, refreshed_lock}
use Rattle.dav_core.specs.Path.{Path, names, is_under}
use Rattle.dav_core.proofs.Theorems.{grantable_by_tests, granted_are_shared}
use Rattle.dav_engine.specs.Guard.{folder_of, IsGuard, IsSameLock, IsListed, listed_here, listed_later, IsElsewhere, AllElsewhere, no_others, another, Guards, guards_here, guards_later}
use Rattle.dav_engine.proofs.GuardedFolders.{covers_by}
use Rattle.dav_engine.proofs.LockListLemmas.{mapped_from, other_token, front_found, none_here, any_here}

-- ---- what may be granted isn't on a path that an exclusive lock covers

module _ (h : Lock) (exclusive : h.shared ≡ false) (new : Lock) where
  abbrev shares : Lock → Bool
  shares l = l.shared && new.shared

  abbrev over : List Lock → List Lock
  over ls = covering (names new.path) ls

  one_by : (l : Lock) (ls : List Lock) (b : Bool) → list_all shares (cond b (l ∷ over ls) (over ls)) ≡ true → l.shared ≡ false → b ≡ false
  one_by l ls true all is = absurd (true≢false (sym all ∙ ap (λ s. (s && new.shared) && list_all shares (over ls)) is))
  one_by l ls false all is = refl

  more_by : (l : Lock) (ls : List Lock) (b : Bool) → list_all shares (cond b (l ∷ over ls) (over ls)) ≡ true → list_all shares (over ls) ≡ true
  more_by l ls true all = (and_parts (shares l) (list_all shares (over ls)) all).1
  more_by l ls false all = all

  off_by : (ls : List Lock) → IsListed h ls → list_all shares (over ls) ≡ true → covers h (names new.path) ≡ false
  off_by [] there all = elim there [ ]
  off_by (l ∷ ls) (listed_here is) all =
      sym (ap (λ (m : Lock). covers m (names new.path)) is) ∙ one_by l ls (covers l (names new.path)) all (ap (λ (m : Lock). m.shared) is ∙ exclusive)
  off_by (l ∷ ls) (listed_later there) all = off_by ls there (more_by l ls (covers l (names new.path)) all)

  pub granted_off : (ls : List Lock) → IsListed h ls → is_grantable new ls ≡ true → covers h (names new.path) ≡ false
  granted_off ls there may = off_by ls there (and_parts (list_all shares (over ls)) _ may).0

-- ---- what may be granted beside a guard is elsewhere

one_beside : (a b c d e : Bool) → (not (a || b) && not (d && (c || e))) ≡ true → ((not (a || false) && not (d && (c || false))) ≡ true) × ((not b && not (d && e)) ≡ true)
one_beside true b c d e may = cc
one_beside false true c d e may = cc
one_beside false false c false e may = (refl, refl)
one_beside false false true true e may = cc
one_beside false false false true true may = cc
one_beside false false false true false may = (refl, refl)

module _ (new : Lock) where
  abbrev in_way : Lock → Bool
  in_way l = covers l (names new.path) && not (l.shared && new.shared)

  abbrev is_below : Lock → Bool
  is_below l = is_under (names l.path) (names new.path)

  -- what may be granted beside locks may be granted beside one of them
  grantable_parts : (l : Lock) (ls : List Lock) → is_grantable new (l ∷ ls) ≡ true → (is_grantable new (l ∷ []) ≡ true) × (is_grantable new ls ≡ true)
  grantable_parts l ls may =
      let (one, more) = one_beside (in_way l) (list_any in_way ls) (is_below l) new.deep (list_any is_below ls) (sym (grantable_by_tests new (l ∷ ls)) ∙ may) in
      (grantable_by_tests new (l ∷ []) ∙ one, grantable_by_tests new ls ∙ more)

alone_shared : (l : Lock) → CoveringAreShared (l ∷ [])
alone_shared l = λ i j d less small. absurd (omega (arith, less, small))

module _ (h : Lock) (guard : IsGuard h) (new : Lock) where
  -- what covers a path in the folder would be shared with the guard
  apart_by : (l : Lock) (rest : Path) → IsSameLock h l → is_grantable new (l ∷ []) ≡ true → (b : Bool) → covers new (folder_of h ++ rest) ≡ b → b ≡ false
  apart_by l rest is may false covered = refl
  apart_by l rest is may true covered =
      let shared : CoveringAreShared (l ∷ new ∷ []) = granted_are_shared new (l ∷ []) (alone_shared l) may in
      let here : covers l (folder_of h ++ rest) ≡ true = ap (λ (m : Lock). covers m (folder_of h ++ rest)) is ∙ covers_by h rest guard.deep in
      let unshared : l.shared ≡ false = ap (λ (m : Lock). m.shared) is ∙ guard.exclusive in
      absurd (true≢false (sym (shared 0 1 l (omega arith) (omega arith) (folder_of h ++ rest) here covered).0 ∙ unshared))

  module _ (differ : new.token ≢ h.token) where
    elsewhere_by : (l : Lock) → IsSameLock h l → is_grantable new (l ∷ []) ≡ true → IsElsewhere h new
    elsewhere_by l is may = record { token = differ; apart = λ rest. apart_by l rest is may (covers new (folder_of h ++ rest)) refl }

    elsewhere : (ls : List Lock) → Guards h ls → is_grantable new ls ≡ true → IsElsewhere h new
    elsewhere [] g may = elim g [ ]
    elsewhere (l ∷ ls) (guards_here is off) may = elsewhere_by l is (grantable_parts new l ls may).0
    elsewhere (l ∷ ls) (guards_later off more) may = elsewhere ls more (grantable_parts new l ls may).1

    others_pushed : (ls : List Lock) → IsElsewhere h new → AllElsewhere h ls → AllElsewhere h (ls ++ new ∷ [])
    others_pushed [] off no_others = another off no_others
    others_pushed (l ∷ ls) off (another away more) = another away (others_pushed ls off more)

    guards_pushed : (ls : List Lock) → IsElsewhere h new → Guards h ls → Guards h (ls ++ new ∷ [])
    guards_pushed [] off g = elim g [ ]
    guards_pushed (l ∷ ls) off (guards_here is away) = guards_here is (others_pushed ls off away)
    guards_pushed (l ∷ ls) off (guards_later away more) = guards_later away (guards_pushed ls off more)

    -- so the guard guards as before
    pub granted_beside : (ls : List Lock) → Guards h ls → is_grantable new ls ≡ true → Guards h (ls ++ new ∷ [])
    granted_beside ls g may = guards_pushed ls (elsewhere ls g may) g

-- ---- a guard guards after a refresh

module _ (h : Lock) (test : Lock → Bool) (f : Lock → Lock) (still : (l : Lock) → IsSameLock h l → IsSameLock h (f l)) (away : (l : Lock) → IsElsewhere h l → IsElsewhere h (f l)) where
  others_by : (l : Lock) (ls : List Lock) (b : Bool) → IsElsewhere h l → AllElsewhere h ls → AllElsewhere h (change_first test f ls) → AllElsewhere h (cond b (f l ∷ ls) (l ∷ change_first test f ls))
  others_by l ls true off all rest = another (away l off) all
  others_by l ls false off all rest = another off rest

  others_changed : (ls : List Lock) → AllElsewhere h ls → AllElsewhere h (change_first test f ls)
  others_changed [] no_others = no_others
  others_changed (l ∷ ls) (another off more) = others_by l ls (test l) off more (others_changed ls more)

  here_by : (l : Lock) (ls : List Lock) (b : Bool) → IsSameLock h l → AllElsewhere h ls → Guards h (cond b (f l ∷ ls) (l ∷ change_first test f ls))
  here_by l ls true is off = guards_here (still l is) off
  here_by l ls false is off = guards_here is (others_changed ls off)

  later_by : (l : Lock) (ls : List Lock) (b : Bool) → IsElsewhere h l → Guards h ls → Guards h (change_first test f ls) → Guards h (cond b (f l ∷ ls) (l ∷ change_first test f ls))
  later_by l ls true off g rest = guards_later (away l off) g
  later_by l ls false off g rest = guards_later off rest

  guards_changed : (ls : List Lock) → Guards h ls → Guards h (change_first test f ls)
  guards_changed [] g = elim g [ ]
  guards_changed (l ∷ ls) (guards_here is off) = here_by l ls (test l) is off
  guards_changed (l ∷ ls) (guards_later off more) = later_by l ls (test l) off more (guards_changed ls more)

pub refreshed_guards : (h : Lock) (token : List ℕ) (p : Path) (timeout : Option ℕ) (now : ℕ) (ls left : List Lock) → Guards h ls → refreshed token p timeout now ls ≡ Some left → Guards h left
refreshed_guards h token p timeout now ls left g is =
    let (q, front, same) = mapped_from (λ q. change_first (has_token_at token q) (refreshed_lock timeout now) ls) (lock_front token p ls) left is in
    subst (Guards h) same
    (guards_changed h (has_token_at token q) (refreshed_lock timeout now) (λ l is. ap (λ (m : Lock). refreshed_lock timeout now m) is) (λ l off. record { token = off.token; apart = off.apart }) ls g)

-- ---- the guard's own token means the guard

module _ (h : Lock) (timeout : Option ℕ) (now : ℕ) where
  abbrev renewed : Lock → Lock
  renewed l = refreshed_lock timeout now l

  abbrev with_token : Path → Lock → Bool
  with_token q = has_token_at h.token q

  first_by : (q : Path) (l : Lock) (ls : List Lock) (b : Bool) → IsSameLock h l → AllElsewhere h ls → (b || list_any (with_token q) ls) ≡ true → option_map renewed (cond b (Some l) (first (with_token q) ls)) ≡ Some (renewed h)
  first_by q l ls true is off any = ap (λ (m : Lock). Some (renewed m)) is
  first_by q l ls false is off any = absurd (true≢false (sym any ∙ none_here h q ls off))

  first_later : (q : Path) (l : Lock) (ls : List Lock) (b : Bool) → b ≡ false → (list_any (with_token q) ls ≡ true → option_map renewed (first (with_token q) ls) ≡ Some (renewed h))
      → (b || list_any (with_token q) ls) ≡ true → option_map renewed (cond b (Some l) (first (with_token q) ls)) ≡ Some (renewed h)
  first_later q l ls true is more any = absurd (true≢false is)
  first_later q l ls false is more any = more any

  first_is : (q : Path) (ls : List Lock) → Guards h ls → list_any (with_token q) ls ≡ true → option_map renewed (first (with_token q) ls) ≡ Some (renewed h)
  first_is q [] g any = elim g [ ]
  first_is q (l ∷ ls) (guards_here is off) any = first_by q l ls (with_token q l) is off any
  first_is q (l ∷ ls) (guards_later off more) any = first_later q l ls (with_token q l) (other_token h.token q l off.token) (first_is q ls more) any

  -- by its token, at its folder and below it, a guard is refreshed, and guards as before
  pub guard_refreshed : (rest : Path) (ls : List Lock) → Guards h ls
      → (left : List Lock) × (option_map (refreshed_lock timeout now) (named_lock h.token (folder_of h ++ rest) ls) ≡ Some (refreshed_lock timeout now h))
      × (refreshed h.token (folder_of h ++ rest) timeout now ls ≡ Some left) × Guards h left
  guard_refreshed rest ls g =
      let (q, front, any) = front_found (folder_of h) rest (λ q. list_any (with_token q) ls) (any_here h ls g) in
      let left : List Lock = change_first (with_token q) (refreshed_lock timeout now) ls in
      let is : refreshed h.token (folder_of h ++ rest) timeout now ls ≡ Some left = ap (option_map (λ q. change_first (with_token q) (refreshed_lock timeout now) ls)) front in (
        left,
        ap (λ o. option_map renewed (option_and_then (λ q. first (with_token q) ls) o)) front ∙ first_is q ls g any,
        is,
        refreshed_guards h h.token (folder_of h ++ rest) timeout now ls left g is,
      )
