-- What the calls of a list of locks do to its index, and answer where no lock matters.
use Rattle.std.proofs.Common.{◌≡◌, ℕ, zero, suc, ◌+◌, ◌-◌, ◌&&◌, ◌||◌, not, Bool, true, false, cond, List, [], ◌∷◌, ◌++◌, length, length-append, get_or, Contains, Option, Some, None, Result, Ok, Err, refl, sym, ap, subst, ◌∙◌, arith}
use Rattle.std.specs.List.{list_any, list_all, filter, flat_map}
use Rattle.std.proofs.lemmas.List.Sums.{sum_by-cons, sum_by-append}
use Rattle.dav_core.specs.Lists.{is_empty}
use Rattle.dav_core.specs.Path.{Path, names, fronts, is_same_path, is_under, is_at_or_under, rest_after, has_names}
use Rattle.std.specs.Option.{is_some}
use Rattle.dav_core.specs.Locks.{Lock, Requester, covers, covering, is_held, is_free, is_free_for, conflicts, Checks, free, conflicting, discovered, deleted}
use Rattle.dav_store.specs.LockIndex.{Key, Seats, path_keys, times, tally, HasCounts, IsIndexOf, matters, MattersAlone}

-- the keys of a lock, counted
abbrev keys_at : Key → Lock → ℕ
keys_at k l = times k (path_keys l.deep (names l.path))

-- ---- the index, as the list changes

pub counts_along : (index : Option Seats) (f g : Key → ℕ) → HasCounts index f → ((k : Key) → f k ≡ g k) → HasCounts index g
counts_along None f g h same = tt
counts_along (Some c) f g h same = λ k. h k ∙ same k

module _ (test : Lock → Bool) (k : Key) where
  parted_by : (l : Lock) (ms ns : List Lock) (b : Bool) → tally k (cond b (l ∷ ms) ms) + tally k (cond (not b) (l ∷ ns) ns) ≡ keys_at k l + (tally k ms + tally k ns)
  parted_by l ms ns true = let a = sum_by-cons (keys_at k) l ms in omega (arith, a)
  parted_by l ms ns false = let a = sum_by-cons (keys_at k) l ns in omega (arith, a)

  -- what passes a test, and what doesn't, is all
  parted : (ls : List Lock) → tally k (filter test ls) + tally k (filter (λ l. not (test l)) ls) ≡ tally k ls
  parted [] = refl
  parted (l ∷ ls) =
      let a = parted_by l (filter test ls) (filter (λ m. not (test m)) ls) (test l) in
      let b = sum_by-cons (keys_at k) l ls in
      let c = parted ls in
      omega (arith, a, b, c)

-- a lock is put after the others
pub index_grown : (index : Option Seats) (deep : Bool) (p : Path) (ls new : List Lock) (l : Lock) → HasCounts index (λ k. tally k ls + times k (path_keys deep p)) → new ≡ ls ++ l ∷ [] → l.deep ≡ deep → names l.path ≡ p → IsIndexOf index new
index_grown index deep p ls new l h is depth place =
    counts_along index (λ k. tally k ls + times k (path_keys deep p)) (λ k. tally k new) h
    (λ k.
    let a : tally k new ≡ tally k (ls ++ l ∷ []) = ap (tally k) is in
    let b = sum_by-append (keys_at k) ls (l ∷ []) in
    let d = sum_by-cons (keys_at k) l [] in
    let e : keys_at k l ≡ times k (path_keys deep p) = λ i. times k (path_keys (depth i) (place i)) in
    omega (arith, a, b, d, e))

-- a lock is taken out
pub index_shrunk : (index : Option Seats) (ls new : List Lock) (keys : Key → ℕ) → HasCounts index (λ k. tally k ls - keys k) → ((k : Key) → tally k ls ≡ tally k new + keys k) → IsIndexOf index new
index_shrunk index ls new keys h is = counts_along index (λ k. tally k ls - keys k) (λ k. tally k new) h (λ k. let a = is k in omega (arith, a))

-- the locks at a path and below it are taken out
pub index_cut : (index : Option Seats) (p : Path) (ls new : List Lock) → HasCounts index (λ k. tally k ls - tally k (filter (λ l. is_at_or_under (names l.path) p) ls)) → new ≡ deleted p ls → IsIndexOf index new
index_cut index p ls new h is =
    counts_along index (λ k. tally k ls - tally k (filter (λ l. is_at_or_under (names l.path) p) ls)) (λ k. tally k new) h
    (λ k.
    let a = parted (λ l. is_at_or_under (names l.path) p) k ls in
    let b : tally k new ≡ tally k (deleted p ls) = ap (tally k) is in
    omega (arith, a, b))

-- ---- answers, where no lock matters

none_step : (a b c : Bool) → (a || b) ≡ false → (a ≡ false → c ≡ false) → (a ≡ false) × (b ≡ false) × (c ≡ false)
none_step true b c h f = cc
none_step false b c h f = (refl, h, f refl)

-- none passes a test that asks for more
none_weaker : (f g : Lock → Bool) → ((l : Lock) → f l ≡ false → g l ≡ false) → (ls : List Lock) → list_any f ls ≡ false → list_any g ls ≡ false
none_weaker f g weaker [] h = refl
none_weaker f g weaker (l ∷ ls) h =
    let (a, b, c) = none_step (f l) (list_any f ls) (g l) h (weaker l) in
    ap (λ d. d || list_any g ls) c ∙ none_weaker f g weaker ls b

uncovered : (asked : Bool) (p : Path) (l : Lock) → matters asked p l ≡ false → covers l p ≡ false
uncovered asked p l h = by_covers (covers l p) (asked && is_at_or_under (names l.path) p) h
  where
    by_covers : (a b : Bool) → (a || b) ≡ false → a ≡ false
    by_covers true b k = k
    by_covers false b k = refl

elsewhere : (p : Path) (l : Lock) → matters true p l ≡ false → is_at_or_under (names l.path) p ≡ false
elsewhere p l h = by_covers (covers l p) (is_at_or_under (names l.path) p) h
  where
    by_covers : (a b : Bool) → (a || (true && b)) ≡ false → b ≡ false
    by_covers true b k = cc
    by_covers false b k = k

-- none is filtered
none_filtered : (f : Lock → Bool) (ls : List Lock) → list_any f ls ≡ false → filter f ls ≡ []
none_filtered f [] h = refl
none_filtered f (l ∷ ls) h =
    let (a, b, c) = none_step (f l) (list_any f ls) (f l) h (λ e. e) in
    ap (λ d. cond d (l ∷ filter f ls) (filter f ls)) a ∙ none_filtered f ls b

-- all are left
all_left : (f : Lock → Bool) (ls : List Lock) → list_any f ls ≡ false → filter (λ l. not (f l)) ls ≡ ls
all_left f [] h = refl
all_left f (l ∷ ls) h =
    let (a, b, c) = none_step (f l) (list_any f ls) (f l) h (λ e. e) in
    ap (λ d. cond (not d) (l ∷ filter (λ m. not (f m)) ls) (filter (λ m. not (f m)) ls)) a ∙ ap (λ (ms : List Lock). l ∷ ms) (all_left f ls b)

-- each holds or isn't there
all_elsewhere : (held there : Lock → Bool) (ls : List Lock) → list_any there ls ≡ false → list_all (λ l. held l || not (there l)) ls ≡ true
all_elsewhere held there [] h = refl
all_elsewhere held there (l ∷ ls) h =
    let (a, b, c) = none_step (there l) (list_any there ls) (there l) h (λ e. e) in
    by_held (held l) (there l) a (all_elsewhere held there ls b)
  where
    by_held : (x y : Bool) → y ≡ false → list_all (λ m. held m || not (there m)) ls ≡ true → ((x || not y) && list_all (λ m. held m || not (there m)) ls) ≡ true
    by_held true y e rest = rest
    by_held false true e rest = cc
    by_held false false e rest = rest

-- the path is free
pub free_where_none : (asked : Bool) (who : Requester) (p : Path) (ls : List Lock) → list_any (matters asked p) ls ≡ false → is_free_for asked who p ls ≡ true
free_where_none asked who p ls h =
    let none : covering p ls ≡ [] = none_filtered (λ l. covers l p) ls (none_weaker (matters asked p) (λ l. covers l p) (uncovered asked p) ls h) in
    let clear : is_free who p ls ≡ true = ap (λ (ms : List Lock). list_all (λ l. is_held who l || l.shared) ms && (list_any (is_held who) ms || is_empty ms)) none in
    by_asked asked h clear
  where
    by_asked : (a : Bool) → list_any (matters a p) ls ≡ false → is_free who p ls ≡ true → is_free_for a who p ls ≡ true
    by_asked false k clear = clear
    by_asked true k clear =
        (λ i. clear i && list_all (λ l. is_held who l || not (is_at_or_under (names l.path) p)) ls)
        ∙ all_elsewhere (is_held who) (λ l. is_at_or_under (names l.path) p) ls (none_weaker (matters true p) (λ l. is_at_or_under (names l.path) p) (elsewhere p) ls k)

not_below : (p : Path) (l : Lock) → matters true p l ≡ false → is_under (names l.path) p ≡ false
not_below p l h = by_rest (rest_after p (names l.path)) (elsewhere p l h)
  where
    by_rest : (o : Option Path) → is_some o ≡ false → has_names o ≡ false
    by_rest None k = refl
    by_rest (Some r) k = cc

-- no lock conflicts with a new one
pub none_refuses : (deep shared : Bool) (p : Path) (ls : List Lock) → list_any (matters deep p) ls ≡ false
    → (list_any (λ l. covers l p && not (l.shared && shared)) ls || (deep && list_any (λ l. is_under (names l.path) p) ls)) ≡ false
none_refuses deep shared p ls h =
    let excluding : list_any (λ l. covers l p && not (l.shared && shared)) ls ≡ false =
    none_weaker (matters deep p) (λ l. covers l p && not (l.shared && shared)) (λ l k. ap (λ b. b && not (l.shared && shared)) (uncovered deep p l k)) ls h in
    ap (λ b. b || (deep && list_any (λ l. is_under (names l.path) p) ls)) excluding ∙ by_deep deep h
  where
    by_deep : (d : Bool) → list_any (matters d p) ls ≡ false → (d && list_any (λ l. is_under (names l.path) p) ls) ≡ false
    by_deep false k = refl
    by_deep true k = none_weaker (matters true p) (λ l. is_under (names l.path) p) (not_below p) ls k

none_collected : (f : Path → List Lock) → ((q : Path) → f q ≡ []) → (qs : List Path) → flat_map f qs ≡ []
none_collected f none [] = refl
none_collected f none (q ∷ qs) = ap (λ (ms : List Lock). ms ++ flat_map f qs) (none q) ∙ none_collected f none qs

both_false : (a b : Bool) → b ≡ false → (a && b) ≡ false
both_false true b h = h
both_false false b h = refl

-- none is listed
pub none_discovered : (asked : Bool) (p : Path) (ls : List Lock) → list_any (matters asked p) ls ≡ false → discovered p ls ≡ []
none_discovered asked p ls h =
    none_collected (λ q. filter (λ l. is_same_path (names l.path) q && covers l p) ls)
    (λ q.
    none_filtered (λ l. is_same_path (names l.path) q && covers l p) ls
    (none_weaker (matters asked p) (λ l. is_same_path (names l.path) q && covers l p) (λ l k. both_false (is_same_path (names l.path) q) (covers l p) (uncovered asked p l k)) ls h))
    (fronts p)

-- none ends
pub none_deleted : (p : Path) (ls : List Lock) → list_any (matters true p) ls ≡ false → deleted p ls ≡ ls
none_deleted p ls h =
    all_left (λ l. is_at_or_under (names l.path) p) ls (none_weaker (matters true p) (λ l. is_at_or_under (names l.path) p) (elsewhere p) ls h)

-- ---- answers, where one lock alone matters

filtered_alone : (f : Lock → Bool) (l : Lock) (before after : List Lock) → list_any f before ≡ false → list_any f after ≡ false → filter f (before ++ l ∷ after) ≡ filter f (l ∷ [])
filtered_alone f l [] after h k = ap (λ (ms : List Lock). cond (f l) (l ∷ ms) ms) (none_filtered f after k)
filtered_alone f l (x ∷ before) after h k =
    let (a, b, c) = none_step (f x) (list_any f before) (f x) h (λ e. e) in
    ap (λ d. cond d (x ∷ filter f (before ++ l ∷ after)) (filter f (before ++ l ∷ after))) a ∙ filtered_alone f l before after b k

held_or : (held there rest : Bool) → there ≡ false → ((held || not there) && rest) ≡ rest
held_or true there rest h = refl
held_or false true rest h = cc
held_or false false rest h = refl

all_alone : (held there : Lock → Bool) (l : Lock) (before after : List Lock) → list_any there before ≡ false → list_any there after ≡ false
    → list_all (λ m. held m || not (there m)) (before ++ l ∷ after) ≡ list_all (λ m. held m || not (there m)) (l ∷ [])
all_alone held there l [] after h k = ap (λ b. (held l || not (there l)) && b) (all_elsewhere held there after k)
all_alone held there l (x ∷ before) after h k =
    let (a, b, c) = none_step (there x) (list_any there before) (there x) h (λ e. e) in
    held_or (held x) (there x) (list_all (λ m. held m || not (there m)) (before ++ l ∷ after)) a ∙ all_alone held there l before after b k

at_length : (l m : Lock) (before after : List Lock) → get_or (before ++ l ∷ after) (length before) m ≡ l
at_length l m [] after = refl
at_length l m (x ∷ before) after = at_length l m before after

module _ (asked : Bool) (who : Requester) (p : Path) (l : Lock) where
  covering_alone : (ls : List Lock) → MattersAlone asked p l ls → covering p ls ≡ covering p (l ∷ [])
  covering_alone ls (before, after, parts, h, k) =
      ap (covering p) parts
      ∙ filtered_alone (λ m. covers m p) l before after
      (none_weaker (matters asked p) (λ m. covers m p) (uncovered asked p) before h)
      (none_weaker (matters asked p) (λ m. covers m p) (uncovered asked p) after k)

  free_alone : (ls : List Lock) → MattersAlone asked p l ls → is_free who p ls ≡ is_free who p (l ∷ [])
  free_alone ls alone = ap (λ (ms : List Lock). list_all (λ m. is_held who m || m.shared) ms && (list_any (is_held who) ms || is_empty ms)) (covering_alone ls alone)

  conflicts_alone : (ls : List Lock) → MattersAlone asked p l ls → (m : Lock) → conflicts asked who p (l ∷ []) m ≡ true → conflicts asked who p ls m ≡ true
  conflicts_alone ls alone m is =
      subst (λ (ms : List Lock). (not (is_held who m) && ((covers m p && (not m.shared || not (list_any (is_held who) ms))) || (asked && is_at_or_under (names m.path) p))) ≡ true)
      (sym (covering_alone ls alone)) is

  among : (ls : List Lock) → MattersAlone asked p l ls → (m : Lock) → Contains (l ∷ []) m → Contains ls m
  among ls (before, after, parts, h, k) m (zero, within, is) =
      let whole = ap length parts in
      let sum = length-append before (l ∷ after) in
      (length before, omega (arith, whole, sum), ap (λ (ms : List Lock). get_or ms (length before) m) parts ∙ at_length l m before after ∙ is)
  among ls (before, after, parts, h, k) m (suc i, within, is) = absurd (omega (arith, within))

freed_alone : (asked : Bool) (who : Requester) (p : Path) (l : Lock) (ls : List Lock) → MattersAlone asked p l ls → is_free_for asked who p (l ∷ []) ≡ true → is_free_for asked who p ls ≡ true
freed_alone false who p l ls alone clear = free_alone false who p l ls alone ∙ clear
freed_alone true who p l ls (before, after, parts, h, k) clear =
    let lies : Lock → Bool = λ m. is_at_or_under (names m.path) p in
    let first = free_alone true who p l ls (before, after, parts, h, k) in
    let all =
    all_alone (is_held who) lies l before after
    (none_weaker (matters true p) lies (elsewhere p) before h)
    (none_weaker (matters true p) lies (elsewhere p) after k) in
    ap (λ b. b && list_all (λ m. is_held who m || not (lies m)) ls) first
    ∙ ap (λ b. is_free who p (l ∷ []) && b) (ap (list_all (λ m. is_held who m || not (lies m))) parts ∙ all)
    ∙ clear

-- what is answered of the one lock that matters is an answer of the list
pub checked_alone : (asked : Bool) (who : Requester) (p : Path) (l : Lock) (ls : List Lock) (r : Result (Unit {0}) Lock) → MattersAlone asked p l ls → Checks asked who p (l ∷ []) r → Checks asked who p ls r
checked_alone asked who p l ls (Ok u) alone (free is) = free (freed_alone asked who p l ls alone is)
checked_alone asked who p l ls (Err m) alone (conflicting there is) = conflicting (among asked who p l ls alone m there) (conflicts_alone asked who p l ls alone m is)

one_left : (test : Lock → Bool) (l : Lock) (ms : List Lock) (b : Bool) → filter test ms ≡ [] → cond b (l ∷ []) [] ≡ cond b (l ∷ filter test ms) (filter test ms)
one_left test l ms true none = ap (λ (ns : List Lock). l ∷ ns) (sym none)
one_left test l ms false none = sym none

filter_by : (test : Lock → Bool) (m : Lock) (ms ns : List Lock) (b : Bool) → (filter test ms ≡ [] → filter test (ms ++ ns) ≡ filter test ns)
    → cond b (m ∷ filter test ms) (filter test ms) ≡ [] → cond b (m ∷ filter test (ms ++ ns)) (filter test (ms ++ ns)) ≡ filter test ns
filter_by test m ms ns true rest e = cc
filter_by test m ms ns false rest e = rest e

filter_parts : (test : Lock → Bool) (ms ns : List Lock) → filter test ms ≡ [] → filter test (ms ++ ns) ≡ filter test ns
filter_parts test [] ns none = refl
filter_parts test (m ∷ ms) ns none = filter_by test m ms ns (test m) (filter_parts test ms ns) none

collected_alike : (f g : Path → List Lock) → ((q : Path) → f q ≡ g q) → (qs : List Path) → flat_map f qs ≡ flat_map g qs
collected_alike f g same [] = refl
collected_alike f g same (q ∷ qs) = (λ i. same q i ++ collected_alike f g same qs i)

-- what is listed of the one lock that matters is what is listed of all
pub discovered_alone : (asked : Bool) (p : Path) (l : Lock) (ls : List Lock) → MattersAlone asked p l ls → discovered p (l ∷ []) ≡ discovered p ls
discovered_alone asked p l ls (before, after, parts, none, others) =
    collected_alike (λ q. filter (test q) (l ∷ [])) (λ q. filter (test q) ls) same (fronts p) where
      test : Path → Lock → Bool
      test q m = is_same_path (names m.path) q && covers m p

      left : (q : Path) (ms : List Lock) → list_any (matters asked p) ms ≡ false → filter (test q) ms ≡ []
      left q ms h = none_filtered (test q) ms (none_weaker (matters asked p) (test q) (λ m k. both_false (is_same_path (names m.path) q) (covers m p) (uncovered asked p m k)) ms h)

      same : (q : Path) → filter (test q) (l ∷ []) ≡ filter (test q) ls
      same q =
          one_left (test q) l after (test q l) (left q after others)
          ∙ sym (filter_parts (test q) before (l ∷ after) (left q before none))
          ∙ ap (filter (test q)) (sym parts)
