-- Locks of one list that cover one path are shared.
use Rattle.std.proofs.Common.{◌≡◌, ℕ, ◌<◌, suc, ◌++◌, ◌∷◌, [], append_assoc, append-nil, Bool, true, false, not, ◌&&◌, ◌||◌, cond, List, length, All, Option, Some, None, ◌⊎◌, inl, inr, refl, sym, ap, subst, ◌∙◌, arith}
use Rattle.std.specs.List.{list_any, AllPairs}
use Rattle.std.proofs.Math.ListN.{get_or}
use Rattle.std.proofs.lemmas.List.Folds.{list_any_at}
use Rattle.std.proofs.lemmas.List.Kept.{AllPairs-filter, AllPairs-cons}
use Rattle.std.proofs.lemmas.List.Quantifiers.{all_pairs_push}
use Rattle.std.proofs.lemmas.List.Elements.{All-head, All-tail, All-cons}
use Rattle.dav_core.specs.Lists.{without_first, change_first}
use Rattle.dav_core.specs.Path.{Path, names, rest_after, has_names, is_at_or_under, is_under, is_same_path}
use Rattle.dav_core.specs.Locks.{Lock, covers, refreshed_lock, has_token_at, lock_front}
use Rattle.dav_core.specs.LockLaws.{CoveringAreShared, GrantedAreShared, UnlockedAreShared, RefreshedAreShared, DeletedAreShared}
use Rattle.dav_core.proofs.NodesLemmas.{path-itself, same_path}
use Rattle.dav_core.proofs.CoverLemmas.{grantable_by_tests}
use Rattle.dav_core.proofs.ListedLocks.{mapped_some}
use Rattle.dav_core.proofs.FrontLemmas.{rest_after-append, from_rest}

-- of two fronts of one path one is a front of the other
fronts_meet : (a b r s : Path) → a ++ r ≡ b ++ s → ((t : Path) × (b ≡ a ++ t)) ⊎ ((x : List ℕ) × (t : Path) × (a ≡ b ++ x ∷ t))
fronts_meet [] b r s e = inl (b, refl)
fronts_meet (x ∷ a) [] r s e = inr (x, a, refl)
fronts_meet (x ∷ a) (y ∷ b) r s e =
    let head : x ≡ y = cc in
    let tail : a ++ r ≡ b ++ s = cc in
    elim (fronts_meet a b r s tail) as (λ _. ((t : Path) × (y ∷ b ≡ x ∷ (a ++ t))) ⊎ ((z : List ℕ) × (t : Path) × (x ∷ a ≡ y ∷ (b ++ z ∷ t)))) [
      | inl m ↦ inl (m.0, λ i. sym head i ∷ m.1 i)
      | inr m ↦ inr (m.0, m.1, λ i. head i ∷ m.2 i)
    ]

-- no path is longer than itself
not_longer : (p : Path) (x : List ℕ) (r : Path) → p ≡ p ++ x ∷ r → ⊥
not_longer p x r e =
    let itself : rest_after p p ≡ Some [] = ap (rest_after p) (sym (append-nil p)) ∙ rest_after-append p [] in
    let longer : rest_after p p ≡ Some (x ∷ r) = ap (rest_after p) e ∙ rest_after-append p (x ∷ r) in
    cc

below_rest : (a p : Path) (o : Option Path) → rest_after a p ≡ o → has_names o ≡ true → (x : List ℕ) × (r : Path) × (p ≡ a ++ x ∷ r)
below_rest a p None is h = cc
below_rest a p (Some []) is h = cc
below_rest a p (Some (x ∷ r)) is h = (x, r, from_rest a p (x ∷ r) is)

either_way : (a b c : Bool) → (a || (b && c)) ≡ true → (a ≡ true) ⊎ ((b ≡ true) × (c ≡ true))
either_way true b c h = inl refl
either_way false true true h = inr (refl, refl)
either_way false true false h = cc
either_way false false c h = cc

-- how a lock covers a path: it is on it, or it is of infinite depth and on a proper front of it
abbrev pub CoveringWay : Lock → Path → Type 0
CoveringWay l p = (names l.path ≡ p) ⊎ ((x : List ℕ) × (r : Path) × (l.deep ≡ true) × (p ≡ names l.path ++ x ∷ r))

pub covering_way : (l : Lock) (p : Path) → covers l p ≡ true → CoveringWay l p
covering_way l p h =
    elim (either_way (is_same_path (names l.path) p) l.deep (is_under p (names l.path)) h) as (λ _. CoveringWay l p) [
      | inl same ↦ inl (same_path (names l.path) p same)
      | inr both ↦ let (x, r, is) = below_rest (names l.path) p (rest_after (names l.path) p) refl both.1 in inr (x, r, both.0, is)
    ]

-- in both ways it is on a front of the path
pub front_of : (l : Lock) (p : Path) → CoveringWay l p → (r : Path) × (p ≡ names l.path ++ r)
front_of l p (inl e) = ([], sym (append-nil (names l.path) ∙ e))
front_of l p (inr (x, r, deep, e)) = (x ∷ r, e)

either : (a b c : Bool) → b ≡ true → c ≡ true → (a || (b && c)) ≡ true
either true b c h k = refl
either false true true h k = refl
either false true false h k = cc
either false false c h k = cc

is_under-append : (a : Path) (x : List ℕ) (r : Path) → is_under (a ++ x ∷ r) a ≡ true
is_under-append a x r = ap has_names (rest_after-append a (x ∷ r))

-- it covers each path between its own and the covered one
covers_between : (l : Lock) (b p t s : Path) → CoveringWay l p → b ≡ names l.path ++ t → p ≡ b ++ s → covers l b ≡ true
covers_between l b p [] s way e f =
    let same : is_same_path (names l.path) b ≡ true = ap (is_same_path (names l.path)) (e ∙ append-nil (names l.path)) ∙ path-itself (names l.path) in
    ap (λ c. c || (l.deep && is_under b (names l.path))) same
covers_between l b p (x ∷ t) s (inl same) e f =
    absurd (not_longer (names l.path) x (t ++ s) (same ∙ f ∙ ap (λ (y : Path). y ++ s) e ∙ append_assoc (names l.path) (x ∷ t) s))
covers_between l b p (x ∷ t) s (inr (y, r, deep, g)) e f =
    either (is_same_path (names l.path) b) l.deep (is_under b (names l.path)) deep (ap (λ y. is_under y (names l.path)) e ∙ is_under-append (names l.path) x t)

shared_by : (c s n : Bool) → c ≡ true → (c && not (s && n)) ≡ false → (s ≡ true) × (n ≡ true)
shared_by true true true h k = (refl, refl)
shared_by true true false h k = cc
shared_by true false n h k = cc
shared_by false s n h k = cc

none_deep : (d b : Bool) → d ≡ true → b ≡ true → (d && b) ≡ false → ⊥
none_deep true true h k clash = cc
none_deep true false h k clash = cc
none_deep false b h k clash = cc

-- where a new lock may be granted beside a lock, both are shared if they cover one path
module _ (l new : Lock) (no_cover : (covers l (names new.path) && not (l.shared && new.shared)) ≡ false) (none_below : (new.deep && is_under (names l.path) (names new.path)) ≡ false) where
  shares_by : (p : Path) → CoveringWay l p → CoveringWay new p → (s : Path) → p ≡ names new.path ++ s
      → ((t : Path) × (names new.path ≡ names l.path ++ t)) ⊎ ((x : List ℕ) × (t : Path) × (names l.path ≡ names new.path ++ x ∷ t))
      → (r : Path) → p ≡ names l.path ++ r → (l.shared ≡ true) × (new.shared ≡ true)
  shares_by p way its s f (inl (t, e)) r g = shared_by (covers l (names new.path)) l.shared new.shared (covers_between l (names new.path) p t s way e f) no_cover
  shares_by p way (inl same) s f (inr (x, t, e)) r g =
      absurd (not_longer (names new.path) x (t ++ r) (same ∙ g ∙ ap (λ (y : Path). y ++ r) e ∙ append_assoc (names new.path) (x ∷ t) r))
  shares_by p way (inr (y, z, deep, h)) s f (inr (x, t, e)) r g =
      absurd (none_deep new.deep (is_under (names l.path) (names new.path)) deep (ap (λ y. is_under y (names new.path)) e ∙ is_under-append (names new.path) x t) none_below)

  shares : (p : Path) → covers l p ≡ true → covers new p ≡ true → (l.shared ≡ true) × (new.shared ≡ true)
  shares p h k =
      let way : CoveringWay l p = covering_way l p h in
      let its : CoveringWay new p = covering_way new p k in
      let (r, g) = front_of l p way in
      let (s, f) = front_of new p its in
      shares_by p way its s f (fronts_meet (names l.path) (names new.path) r s (sym g ∙ f)) r g

no_test : (test : Lock → Bool) (ls : List Lock) (k : ℕ) (d : Lock) → k < length ls → list_any test ls ≡ false → (b : Bool) → test (get_or ls k d) ≡ b → b ≡ false
no_test test ls k d small none true is = let some : list_any test ls ≡ true = list_any_at test ls k d small is in cc
no_test test ls k d small none false is = refl

granted_by : (a d b : Bool) → (not a && not (d && b)) ≡ true → (a ≡ false) × ((d && b) ≡ false)
granted_by true d b h = cc
granted_by false true true h = cc
granted_by false true false h = (refl, refl)
granted_by false false b h = (refl, refl)

none_too : (d b c : Bool) → (d && b) ≡ false → (b ≡ false → c ≡ false) → (d && c) ≡ false
none_too true b c h f = f h
none_too false b c h f = refl

-- where both locks cover a path, both are shared
abbrev Shared : Lock → Lock → Type 0
Shared l m = (p : Path) → covers l p ≡ true → covers m p ≡ true → (l.shared ≡ true) × (m.shared ≡ true)

pub granted_are_shared : GrantedAreShared
granted_are_shared new ls before grantable =
    let refusal = λ (l : Lock). covers l (names new.path) && not (l.shared && new.shared) in
    let below = λ (l : Lock). is_under (names l.path) (names new.path) in
    let (none, none_below) = granted_by (list_any refusal ls) new.deep (list_any below ls) (sym (grantable_by_tests new ls) ∙ grantable) in
    all_pairs_push Shared ls new before
    (λ k d small. shares (get_or ls k d) new (no_test refusal ls k d small none _ refl)
    (none_too new.deep (list_any below ls) (below (get_or ls k d)) none_below (λ h. no_test below ls k d small h _ refl)))

-- ---- what an item left out or changed leaves of pairs

AllPairs-head : {X : Type 0} (R : X → X → Type 0) (x : X) (xs : List X) → AllPairs R (x ∷ xs) → All (R x) xs
AllPairs-head R x xs pairs = λ k d small. pairs 0 (suc k) d (omega arith) (omega (arith, small))

AllPairs-tail : {X : Type 0} (R : X → X → Type 0) (x : X) (xs : List X) → AllPairs R (x ∷ xs) → AllPairs R xs
AllPairs-tail R x xs pairs = λ i j d less small. pairs (suc i) (suc j) d (omega (arith, less)) (omega (arith, small))

without_step : {X : Type 0} (P : X → Type 0) (x : X) (xs rest : List X) (b : Bool) → P x → All P xs → All P rest → All P (cond b xs (x ∷ rest))
without_step P x xs rest true h all ih = all
without_step P x xs rest false h all ih = All-cons P x rest h ih

pub All-without_first : {X : Type 0} (P : X → Type 0) (test : X → Bool) (xs : List X) → All P xs → All P (without_first test xs)
All-without_first P test [] all = all
All-without_first P test (x ∷ xs) all =
    without_step P x xs (without_first test xs) (test x) (All-head P x xs all) (All-tail P x xs all) (All-without_first P test xs (All-tail P x xs all))

pairs_without_step : {X : Type 0} (R : X → X → Type 0) (x : X) (xs rest : List X) (b : Bool) → AllPairs R xs → All (R x) rest → AllPairs R rest → AllPairs R (cond b xs (x ∷ rest))
pairs_without_step R x xs rest true pairs all ih = pairs
pairs_without_step R x xs rest false pairs all ih = AllPairs-cons R x rest all ih

AllPairs-without_first : {X : Type 0} (R : X → X → Type 0) (test : X → Bool) (xs : List X) → AllPairs R xs → AllPairs R (without_first test xs)
AllPairs-without_first R test [] pairs = pairs
AllPairs-without_first R test (x ∷ xs) pairs =
    pairs_without_step R x xs (without_first test xs) (test x) (AllPairs-tail R x xs pairs)
    (All-without_first (R x) test xs (AllPairs-head R x xs pairs)) (AllPairs-without_first R test xs (AllPairs-tail R x xs pairs))

module _ {X : Type 0} (test : X → Bool) (f : X → X) where
  change_step : (P : X → Type 0) → ((y : X) → P y → P (f y)) → (x : X) (xs rest : List X) (b : Bool) → P x → All P xs → All P rest → All P (cond b (f x ∷ xs) (x ∷ rest))
  change_step P keeps x xs rest true h all ih = All-cons P (f x) xs (keeps x h) all
  change_step P keeps x xs rest false h all ih = All-cons P x rest h ih

  pub All-change_first : (P : X → Type 0) → ((y : X) → P y → P (f y)) → (xs : List X) → All P xs → All P (change_first test f xs)
  All-change_first P keeps [] all = all
  All-change_first P keeps (x ∷ xs) all =
      change_step P keeps x xs (change_first test f xs) (test x) (All-head P x xs all) (All-tail P x xs all) (All-change_first P keeps xs (All-tail P x xs all))

  module _ (R : X → X → Type 0) (first : (x y : X) → R x y → R (f x) y) (second : (x y : X) → R x y → R x (f y)) where
    every : (x : X) (xs : List X) → All (R x) xs → All (R (f x)) xs
    every x xs all = λ k d small. first x _ (all k d small)

    pairs_change_step : (x : X) (xs rest : List X) (b : Bool) → All (R x) xs → AllPairs R xs → All (R x) rest → AllPairs R rest → AllPairs R (cond b (f x ∷ xs) (x ∷ rest))
    pairs_change_step x xs rest true all pairs others ih = AllPairs-cons R (f x) xs (every x xs all) pairs
    pairs_change_step x xs rest false all pairs others ih = AllPairs-cons R x rest others ih

    AllPairs-change_first : (xs : List X) → AllPairs R xs → AllPairs R (change_first test f xs)
    AllPairs-change_first [] pairs = pairs
    AllPairs-change_first (x ∷ xs) pairs =
        pairs_change_step x xs (change_first test f xs) (test x) (AllPairs-head R x xs pairs) (AllPairs-tail R x xs pairs)
        (All-change_first (R x) (second x) xs (AllPairs-head R x xs pairs)) (AllPairs-change_first xs (AllPairs-tail R x xs pairs))

pub unlocked_are_shared : UnlockedAreShared
unlocked_are_shared token p ls left before h =
    let (q, at, is) = mapped_some (λ q. without_first (has_token_at token q) ls) (lock_front token p ls) left h in
    subst CoveringAreShared (sym is) (AllPairs-without_first Shared (has_token_at token q) ls before)

pub refreshed_are_shared : RefreshedAreShared
refreshed_are_shared token p timeout now ls new before h =
    let (q, at, is) = mapped_some (λ q. change_first (has_token_at token q) (refreshed_lock timeout now) ls) (lock_front token p ls) new h in
    subst CoveringAreShared (sym is)
    (AllPairs-change_first (has_token_at token q) (refreshed_lock timeout now) Shared (λ l m both. both) (λ l m both. both) ls before)

pub deleted_are_shared : DeletedAreShared
deleted_are_shared p ls before = AllPairs-filter Shared (λ l. not (is_at_or_under (names l.path) p)) ls before

pub none_are_shared : CoveringAreShared []
none_are_shared = λ i j d less small. absurd (omega (arith, less, small))
