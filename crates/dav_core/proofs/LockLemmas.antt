-- Lists of locks.
use Rattle.std.proofs.Common.{◌≡◌, ◌≢◌, All, ℕ, if◌then◌else◌, ◌++◌, ◌∷◌, [], Bool, true, false, not, ◌&&◌, ◌||◌, List, Contains, map, cond, bytes_eq, Option, Some, None, refl, sym, ap, ◌∙◌, arith}
use Rattle.std.specs.List.{list_all, list_any, flat_map, find as first}
use Rattle.std.proofs.lemmas.List.Sums.{AllPass-from_list_all}
use Rattle.std.specs.Option.{is_some, option_map}
use Rattle.std.specs.Ordering.{is_eq}
use Rattle.std.specs.Cmp.{tied_itself}
use Rattle.std.specs.Cmp.Lexicographic.{nat_list_cmp_total}
use Rattle.std.proofs.lemmas.List.Folds.{list_any-append}
use Rattle.std.proofs.lemmas.Map.Text.{is_eq-slice_cmp}
use Rattle.std.proofs.lemmas.List.Elements.{All-contains, All-weaker}
use Rattle.dav_core.specs.Path.{Path, names, is_at_or_under, is_under, is_same_path, fronts}
use Rattle.dav_core.specs.Locks.{Lock, Requester, covers, is_held, is_free, is_free_for, has_token_at, lock_front, unlocked, discovered}
use Rattle.dav_core.specs.Lists.{without_first}
use Rattle.dav_core.specs.LockLaws.{FreeHoldsExclusive, FreeHoldsOwn, FreeDeepHoldsBelow, FreeIsNoConflict, GrantedCanBeUnlocked, TakenBack}
use Rattle.std.proofs.lemmas.Slice.Eq.{bytes_eq-Decides}
use Rattle.dav_core.proofs.CoverLemmas.{some_held, free_by_tests}
use Rattle.std.proofs.lemmas.List.Folds.{list_any_none}
use Rattle.dav_core.proofs.NodesLemmas.{apart, path-itself}
use Rattle.std.proofs.lemmas.Bool.{and_parts, or_parts}
use Rattle.std.proofs.Math.Bool.{or-false}

-- what passes for all of a list passes for one of it
passes : {X : Type 0} (test : X → Bool) (xs : List X) (x : X) → list_all test xs ≡ true → Contains xs x → test x ≡ true
passes test xs x all here = All-contains (λ y. test y ≡ true) xs x (AllPass-from_list_all test xs all) here

is_exclusive_held : (h s c : Bool) → (h || s || not c) ≡ true → c ≡ true → s ≡ false → h ≡ true
is_exclusive_held true s c passed covering exclusive = refl
is_exclusive_held false s c passed covering exclusive = grind arith

pub free_holds_exclusive : FreeHoldsExclusive
free_holds_exclusive who p ls l free here covering exclusive =
    is_exclusive_held (is_held who l) l.shared (covers l p) (passes (λ m. is_held who m || m.shared || not (covers m p)) ls l (and_parts _ _ (sym (free_by_tests who p ls) ∙ free)).0 here) covering exclusive

pub free_holds_own : FreeHoldsOwn
free_holds_own who p ls l free here on exclusive =
    free_holds_exclusive who p ls l free here (ap (λ b. b || (l.deep && is_under p (names l.path))) (ap (is_same_path (names l.path)) (sym on) ∙ path-itself (names l.path))) exclusive

is_below_held : (h a : Bool) → (h || not a) ≡ true → a ≡ true → h ≡ true
is_below_held true a passed below = refl
is_below_held false a passed below = grind arith

pub free_deep_holds_below : FreeDeepHoldsBelow
free_deep_holds_below who p ls l free here below =
    is_below_held (is_held who l) (is_at_or_under (names l.path) p) (passes (λ m. is_held who m || not (is_at_or_under (names m.path) p)) ls l (and_parts _ _ free).1 here) below

-- one lock of the list: it conflicts neither by covering the path nor by being at it or below it
parted_step : (h s c a b deep all covered below : Bool)
    → all ≡ (covered && (not deep || below))
    → (not (not h && ((c && (not s || not b)) || (deep && a))) && all) ≡ (((h || (s && b) || not c) && covered) && (not deep || ((h || not a) && below)))
parted_step h s c a b deep all covered below e = grind arith

-- no lock conflicts: none by covering the path, and none by being at it or below it, where the path is checked with
-- everything below
parted : (deep : Bool) (who : Requester) (p : Path) (b : Bool) (ls : List Lock)
    → list_all (λ l. not (not (is_held who l) && ((covers l p && (not l.shared || not b)) || (deep && is_at_or_under (names l.path) p)))) ls
    ≡ (list_all (λ l. is_held who l || (l.shared && b) || not (covers l p)) ls && (not deep || list_all (λ l. is_held who l || not (is_at_or_under (names l.path) p)) ls))
parted true who p b [] = refl
parted false who p b [] = refl
parted deep who p b (l ∷ ls) =
    parted_step (is_held who l) l.shared (covers l p) (is_at_or_under (names l.path) p) b deep _ _ _ (parted deep who p b ls)

-- where some lock is held that covers the path, shared ones that cover it don't conflict
with_one_held : (who : Requester) (p : Path) (ls : List Lock)
    → list_all (λ l. is_held who l || (l.shared && true) || not (covers l p)) ls ≡ list_all (λ l. is_held who l || l.shared || not (covers l p)) ls
with_one_held who p [] = refl
with_one_held who p (l ∷ ls) =
    let step : (h s c x y : Bool) → x ≡ y → ((h || (s && true) || not c) && x) ≡ ((h || s || not c) && y) = λ h s c x y e. grind arith in
    step (is_held who l) l.shared (covers l p) _ _ (with_one_held who p ls)

without_step : (h s c x y any held : Bool) → ((c && h) || held) ≡ false → (held ≡ false → x ≡ (y && not any))
    → ((h || (s && false) || not c) && x) ≡ (((h || s || not c) && y) && not (c || any))
without_step h s c x y any false none e = let e : x ≡ (y && not any) = e refl in grind arith
without_step h s c x y any true none e = grind arith

-- where none is held that covers it, each covering lock conflicts
with_none_held : (who : Requester) (p : Path) (ls : List Lock)
    → list_any (λ l. covers l p && is_held who l) ls ≡ false
    → list_all (λ l. is_held who l || (l.shared && false) || not (covers l p)) ls ≡ (list_all (λ l. is_held who l || l.shared || not (covers l p)) ls && not (list_any (λ l. covers l p) ls))
with_none_held who p [] none = refl
with_none_held who p (l ∷ ls) none =
    without_step (is_held who l) l.shared (covers l p) _ _ _ _ none (with_none_held who p ls)

covering_step : (b : Bool) (who : Requester) (p : Path) (ls : List Lock)
    → list_any (λ l. covers l p && is_held who l) ls ≡ b
    → list_all (λ l. is_held who l || (l.shared && b) || not (covers l p)) ls ≡ is_free who p ls
covering_step true who p ls some =
    let step : (x y any held : Bool) → x ≡ y → held ≡ true → x ≡ (y && (held || not any)) = λ x y any held e f. grind arith in
    step _ _ _ _ (with_one_held who p ls) some ∙ sym (free_by_tests who p ls)
covering_step false who p ls none =
    let step : (x y any held : Bool) → x ≡ (y && not any) → held ≡ false → x ≡ (y && (held || not any)) = λ x y any held e f. grind arith in
    step _ _ _ _ (with_none_held who p ls none) none ∙ sym (free_by_tests who p ls)

deep_step : (deep x free below : Bool) → x ≡ (free && (not deep || below)) → (if deep then (free && below) else free) ≡ x
deep_step true x free below e = sym e
deep_step false x free below e = grind arith

pub free_is_no_conflict : FreeIsNoConflict
free_is_no_conflict deep who p ls =
    deep_step deep _ _ _ (parted deep who p _ ls ∙ ap (λ x. x && (not deep || list_all (λ l. is_held who l || not (is_at_or_under (names l.path) p)) ls)) (covering_step _ who p ls (sym (some_held who p ls))))

some_of_cond : {X : Type 0} (b : Bool) (x : X) (o : Option X) → (b || is_some o) ≡ true → is_some (cond b (Some x) o) ≡ true
some_of_cond true x o h = refl
some_of_cond false x o h = h

some_mapped : (f : Path → Path) (test : Path → Bool) (ps : List Path) → is_some (first (λ q. test (f q)) ps) ≡ true → is_some (first test (map f ps)) ≡ true
some_mapped f test [] h = h
some_mapped f test (p ∷ ps) h =
    elim (test (f p)) as (λ b. is_some (cond b (Some p) (first (λ q. test (f q)) ps)) ≡ true → is_some (cond b (Some (f p)) (first test (map f ps))) ≡ true) [
      | true ↦ λ _. refl
      | false ↦ some_mapped f test ps
    ] h

-- where the whole path passes, some front of it does
some_front : (p : Path) (test : Path → Bool) → test p ≡ true → is_some (first test (fronts p)) ≡ true
some_front [] test h = some_of_cond (test []) [] None (grind arith)
some_front (x ∷ p) test h =
    let more = some_mapped (λ q. x ∷ q) test (fronts p) (some_front p (λ q. test (x ∷ q)) h) in
    some_of_cond (test []) [] _ (grind arith)

some_of_map : {X Y : Type 0} (f : X → Y) (o : Option X) → is_some o ≡ true → is_some (option_map f o) ≡ true
some_of_map f None h = cc
some_of_map f (Some x) h = refl

pub granted_can_be_unlocked : GrantedCanBeUnlocked
granted_can_be_unlocked l ls =
    let token : bytes_eq l.token l.token ≡ true = sym (is_eq-slice_cmp l.token l.token) ∙ ap is_eq (tied_itself nat_list_cmp_total l.token) in
    let named : has_token_at l.token (names l.path) l ≡ true = ap (λ b. b && is_same_path (names l.path) (names l.path)) token ∙ path-itself (names l.path) in
    let any : list_any (has_token_at l.token (names l.path)) (ls ++ l ∷ []) ≡ true = list_any-append (has_token_at l.token (names l.path)) ls (l ∷ []) ∙ grind arith in
    some_of_map _ _ (some_front (names l.path) (λ q. list_any (has_token_at l.token q) (ls ++ l ∷ [])) any)

first_mapped_step : (f : Path → Path) (test : Path → Bool) (q : Path) (ps : List Path) (p : Path) (b : Bool)
    → (first (λ x. test (f x)) ps ≡ Some p → first test (map f ps) ≡ Some (f p))
    → cond b (Some q) (first (λ x. test (f x)) ps) ≡ Some p → cond b (Some (f q)) (first test (map f ps)) ≡ Some (f p)
first_mapped_step f test q ps p true ih h = let same : q ≡ p = cc in ap (λ x. Some (f x)) same
first_mapped_step f test q ps p false ih h = ih h

unnamed_by : (t u : List ℕ) (same b : Bool) → bytes_eq t u ≡ b → t ≢ u → (b && same) ≡ false
unnamed_by t u same true is differ = absurd (differ ((bytes_eq-Decides t u).0 is))
unnamed_by t u same false is differ = refl

unnamed : (token : List ℕ) (q : Path) (m : Lock) → m.token ≢ token → has_token_at token q m ≡ false
unnamed token q m differ = unnamed_by m.token token (is_same_path (names m.path) q) (bytes_eq m.token token) refl differ

first_mapped : (f : Path → Path) (test : Path → Bool) (ps : List Path) (p : Path) → first (λ q. test (f q)) ps ≡ Some p → first test (map f ps) ≡ Some (f p)
first_mapped f test [] p h = cc
first_mapped f test (q ∷ ps) p h = first_mapped_step f test q ps p (test (f q)) (first_mapped f test ps p) h

-- where a test is true of the path only, the path is the first front that passes
only_front : (p : Path) (test : Path → Bool) → test p ≡ true → ((q : Path) → q ≢ p → test q ≡ false) → first test (fronts p) ≡ Some p
only_front [] test here others = ap (λ b. cond b (Some []) None) here
only_front (x ∷ p) test here others =
    ap (λ b. cond b (Some []) (first test (map (λ q. x ∷ q) (fronts p)))) (others [] (λ e. cc))
    ∙ first_mapped (λ q. x ∷ q) test (fronts p) p (only_front p (λ q. test (x ∷ q)) here (λ q differ. others (x ∷ q) (λ e. differ (let same : q ≡ p = cc in same))))

-- the last item is left out where none before it passes
last_left_out : {X : Type 0} (test : X → Bool) (x : X) (xs : List X) → test x ≡ true → list_any test xs ≡ false → without_first test (xs ++ x ∷ []) ≡ xs
last_left_out test x [] here none = ap (λ b. cond b [] (x ∷ [])) here
last_left_out test x (y ∷ xs) here none =
    let (fails, rest) = or_parts (test y) (list_any test xs) none in
    ap (λ b. cond b (xs ++ x ∷ []) (y ∷ without_first test (xs ++ x ∷ []))) fails ∙ ap (λ zs. y ∷ zs) (last_left_out test x xs here rest)

token_itself : (l : Lock) → bytes_eq l.token l.token ≡ true
token_itself l = (bytes_eq-Decides l.token l.token).1 refl

-- no lock with another token is meant by this one's token
none_named : (l : Lock) (q : Path) (ls : List Lock) → All (λ m. m.token ≢ l.token) ls → list_any (has_token_at l.token q) ls ≡ false
none_named l q ls others = list_any_none (has_token_at l.token q) ls (All-weaker (λ m. m.token ≢ l.token) (λ m. has_token_at l.token q m ≡ false) (λ m h. unnamed l.token q m h) ls others)

pub taken_back : TakenBack
taken_back l ls others =
    let test = λ (q : Path). list_any (has_token_at l.token q) (ls ++ l ∷ []) in
    let only : (q : Path) → test q ≡ is_same_path (names l.path) q = λ q.
    list_any-append (has_token_at l.token q) ls (l ∷ []) ∙ ap (λ b. b || ((bytes_eq l.token l.token && is_same_path (names l.path) q) || false)) (none_named l q ls others)
    ∙ ap (λ b. (b && is_same_path (names l.path) q) || false) (token_itself l) ∙ or-false (is_same_path (names l.path) q) in
    let front : lock_front l.token (names l.path) (ls ++ l ∷ []) ≡ Some (names l.path) =
    only_front (names l.path) test (only (names l.path) ∙ path-itself (names l.path)) (λ q differ. only q ∙ apart (names l.path) q (λ e. differ (sym e))) in
    ap (option_map (λ q. without_first (has_token_at l.token q) (ls ++ l ∷ []))) front
    ∙ ap (λ (ms : List Lock). Some ms) (last_left_out (has_token_at l.token (names l.path)) l ls (ap (λ b. b && is_same_path (names l.path) (names l.path)) (token_itself l) ∙ path-itself (names l.path)) (none_named l (names l.path) ls others))

abbrev no_locks : List Lock
no_locks = []

-- where nothing passes, there is no first that does
none_among : {X : Type 0} (xs : List X) → first (λ x. false) xs ≡ None
none_among [] = refl
none_among (x ∷ xs) = none_among xs

pub none_is_named : (token : List ℕ) (p : Path) → unlocked token p [] ≡ None
none_is_named token p = ap (option_map (λ q. without_first (has_token_at token q) [])) (none_among (fronts p))

none_for_each : {X : Type 0} (xs : List X) → flat_map (λ (x : X). no_locks) xs ≡ no_locks
none_for_each [] = refl
none_for_each (x ∷ xs) = none_for_each xs

-- and none is discovered
pub none_is_discovered : (p : Path) → discovered p [] ≡ []
none_is_discovered p = none_for_each (fronts p)

-- without locks every path is free
pub all_is_free : (deep : Bool) (who : Requester) (p : Path) → is_free_for deep who p [] ≡ true
all_is_free true who p = refl
all_is_free false who p = refl
