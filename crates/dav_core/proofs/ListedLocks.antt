-- What unlocking and refreshing do to the list of locks: one lock is removed, or changed, and all others keep their places.
use Rattle.std.proofs.Common.{◌≡◌, ℕ, ◌++◌, ◌∷◌, [], Bool, true, false, ◌||◌, cond, List, map, bytes_eq, Option, Some, None, refl, sym, ap, ◌∙◌, append-nil}
use Rattle.std.specs.List.{list_any, find as first}
use Rattle.std.specs.Option.{option_map, is_some}
use Rattle.std.proofs.lemmas.Slice.Eq.{bytes_eq-Decides}
use Rattle.dav_core.specs.Lists.{without_first, change_first}
use Rattle.dav_core.specs.Path.{Path, names, fronts, is_at_or_under, is_same_path}
use Rattle.dav_core.specs.Locks.{Lock, has_token_at, lock_front, refreshed_lock}
use Rattle.dav_core.specs.LockLaws.{IsNamedLock, UnlockTakesOne, RefreshChangesOne}
use Rattle.dav_core.proofs.NodesLemmas.{same_path}
use Rattle.dav_core.proofs.FrontLemmas.{rest_after-append}
use Rattle.std.proofs.lemmas.Bool.{and_parts}

-- the items before the first one that passes, that one, and the others
pub record Parted {X : Type 0} (test : X → Bool) (xs : List X) : Type 0 where
  pub item : X
  pub front : List X
  pub back : List X
  pub passes : test item ≡ true
  pub whole : xs ≡ front ++ item ∷ back
  pub without : without_first test xs ≡ front ++ back
  pub changed : (f : X → X) → change_first test f xs ≡ front ++ f item ∷ back

part_step : {X : Type 0} (test : X → Bool) (x : X) (xs : List X) (b : Bool) → test x ≡ b
    → (list_any test xs ≡ true → Parted test xs) → (b || list_any test xs) ≡ true → Parted test (x ∷ xs)
part_step test x xs true is ih some = record {
  item = x;
  front = [];
  back = xs;
  passes = is;
  whole = refl;
  without = ap (λ c. cond c xs (x ∷ without_first test xs)) is;
  changed = λ f. ap (λ c. cond c (f x ∷ xs) (x ∷ change_first test f xs)) is;
}
part_step test x xs false is ih some =
    let rest = ih some in
    record {
      item = rest.item;
      front = x ∷ rest.front;
      back = rest.back;
      passes = rest.passes;
      whole = ap (λ ys. x ∷ ys) rest.whole;
      without = ap (λ c. cond c xs (x ∷ without_first test xs)) is ∙ ap (λ ys. x ∷ ys) rest.without;
      changed = λ f. ap (λ c. cond c (f x ∷ xs) (x ∷ change_first test f xs)) is ∙ ap (λ ys. x ∷ ys) (rest.changed f);
    }

parted : {X : Type 0} (test : X → Bool) (xs : List X) → list_any test xs ≡ true → Parted test xs
parted test [] some = cc
parted test (x ∷ xs) some = part_step test x xs (test x) refl (parted test xs) some

-- the first of mapped paths that passes
mapped_step : (f : Path → Path) (test : Path → Bool) (x : Path) (xs : List Path) (q : Path) (b : Bool) → test (f x) ≡ b
    → (first test (map f xs) ≡ Some q → (r : Path) × (q ≡ f r) × (first (λ y. test (f y)) xs ≡ Some r))
    → cond b (Some (f x)) (first test (map f xs)) ≡ Some q
    → (r : Path) × (q ≡ f r) × (cond b (Some x) (first (λ y. test (f y)) xs) ≡ Some r)
mapped_step f test x xs q true is ih h = let same : f x ≡ q = cc in (x, sym same, refl)
mapped_step f test x xs q false is ih h = ih h

first_of_mapped : (f : Path → Path) (test : Path → Bool) (ps : List Path) (q : Path) → first test (map f ps) ≡ Some q
    → (r : Path) × (q ≡ f r) × (first (λ y. test (f y)) ps ≡ Some r)
first_of_mapped f test [] q h = cc
first_of_mapped f test (x ∷ xs) q h = mapped_step f test x xs q (test (f x)) refl (first_of_mapped f test xs q) h

-- the front of a path that is the first to pass passes, and is a front
abbrev FirstFront : (Path → Bool) → Path → Path → Type 0
FirstFront test p q = (test q ≡ true) × ((rest : Path) × (p ≡ q ++ rest))

front_step : (test : Path → Bool) (x : List ℕ) (p q : Path) (b : Bool) → test [] ≡ b
    → ((r : Path) → first (λ y. test (x ∷ y)) (fronts p) ≡ Some r → FirstFront (λ y. test (x ∷ y)) p r)
    → cond b (Some []) (first test (map (λ y. x ∷ y) (fronts p))) ≡ Some q → FirstFront test (x ∷ p) q
front_step test x p q true is ih h =
    let root : [] ≡ q = cc in
    (ap test (sym root) ∙ is, (x ∷ p, ap (λ (y : Path). y ++ x ∷ p) root))
front_step test x p q false is ih h =
    let (r, e, found) = first_of_mapped (λ y. x ∷ y) test (fronts p) q h in
    let rest = ih r found in
    (ap test e ∙ rest.0, (rest.1.0, ap (λ (y : Path). x ∷ y) rest.1.1 ∙ ap (λ (y : Path). y ++ rest.1.0) (sym e)))

root_only : (test : Path → Bool) (q : Path) (b : Bool) → test [] ≡ b → ◌≡◌ {A = Option Path} (cond b (Some []) None) (Some q) → FirstFront test [] q
root_only test q true is h = let root : [] ≡ q = cc in (ap test (sym root) ∙ is, ([], root ∙ sym (append-nil q)))
root_only test q false is h = cc

first_front : (p : Path) (test : Path → Bool) (q : Path) → first test (fronts p) ≡ Some q → FirstFront test p q
first_front [] test q h = root_only test q (test []) refl h
first_front (x ∷ p) test q h = front_step test x p q (test []) refl (first_front p (λ y. test (x ∷ y))) h

-- a lock with this token on a front of the path is one that they can mean
is_meant : (token : List ℕ) (p q rest : Path) (l : Lock) → p ≡ q ++ rest → has_token_at token q l ≡ true → IsNamedLock token p l
is_meant token p q rest l e h =
    let (same, at) = and_parts (bytes_eq l.token token) (is_same_path (names l.path) q) h in
    record {
      token_is = (bytes_eq-Decides l.token token).0 same;
      above = ap (λ y. is_at_or_under p y) (same_path (names l.path) q at) ∙ ap (λ y. is_at_or_under y q) e ∙ ap is_some (rest_after-append q rest);
    }

pub mapped_some : {X Y : Type 0} (f : X → Y) (o : Option X) (y : Y) → option_map f o ≡ Some y → (x : X) × (o ≡ Some x) × (y ≡ f x)
mapped_some f None y h = cc
mapped_some f (Some x) y h = (x, refl, let same : f x ≡ y = cc in sym same)

pub unlock_takes_one : UnlockTakesOne
unlock_takes_one token p ls left h =
    let (q, at, is) = mapped_some (λ q. without_first (has_token_at token q) ls) (lock_front token p ls) left h in
    let found = first_front p (λ q. list_any (has_token_at token q) ls) q at in
    let parts = parted (has_token_at token q) ls found.0 in
    (parts.item, parts.front, parts.back, is_meant token p q found.1.0 parts.item found.1.1 parts.passes, parts.whole, is ∙ parts.without)

pub refresh_changes_one : RefreshChangesOne
refresh_changes_one token p timeout now ls new h =
    let (q, at, is) = mapped_some (λ q. change_first (has_token_at token q) (refreshed_lock timeout now) ls) (lock_front token p ls) new h in
    let found = first_front p (λ q. list_any (has_token_at token q) ls) q at in
    let parts = parted (has_token_at token q) ls found.0 in
    (parts.item, parts.front, parts.back, is_meant token p q found.1.0 parts.item found.1.1 parts.passes, parts.whole, is ∙ parts.changed (refreshed_lock timeout now))
