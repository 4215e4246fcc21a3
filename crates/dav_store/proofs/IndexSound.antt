-- Where the counts say that no lock matters to a path, none does; and where they say that at most one does, no two do.
use Rattle.std.proofs.Common.{◌≡◌, ℕ, ◌+◌, zero, suc, ◌≤◌, ◌<◌, ◌&&◌, ◌||◌, Bool, true, false, cond, List, [], ◌∷◌, ◌++◌, length, get_or, Option, Some, None, inl, inr, refl, sym, ap, subst, ◌∙◌, arith, append_assoc, append-nil}
use Rattle.std.specs.List.{list_any}
use Rattle.std.specs.Option.{is_some}
use Rattle.std.proofs.lemmas.List.Sums.{sum_by-cons}
use Rattle.dav_core.specs.Path.{Path, names, rest_after, is_same_path, is_at_or_under}
use Rattle.dav_core.specs.Locks.{Lock, covers}
use Rattle.dav_core.proofs.Theorems.{from_rest, CoveringWay, covering_way, path-itself}
use Rattle.dav_store.specs.LockIndex.{Key, same_kind, below_key, at_key, deep_key, end_key, keys_from, path_keys, times, one_at, tally, matters, weight_from, weight, MattersAlone}
use Rattle.dav_store.specs.declared.memls.index.Kind.{Kind}
use Rattle.dav_store.specs.declared.memls.index.Kind.TheVariants.{Below, At, Deep}
use Rattle.dav_store.proofs.IndexLemmas.{times_more}

kind-itself : (k : Kind) → same_kind k k ≡ true
kind-itself Below = refl
kind-itself At = refl
kind-itself Deep = refl

own : (k : Key) → one_at k k ≡ 1
unfolding one_at
own k = ap (λ b. cond (b && is_same_path k.1 k.1) 1 0) (kind-itself k.0) ∙ ap (λ b. cond b 1 0) (path-itself k.1)

none_below : {A : Type 0} (i : ℕ) → i < 0 → A
none_below i h = absurd (omega arith)

less_suc : (i n : ℕ) → suc i < suc n → i < n
less_suc i n h = omega arith

-- each key of a lock is counted
abbrev AreCounted : (Key → ℕ) → List Key → Type 0
AreCounted count keys = (k : Key) → times k keys ≤ count k

module _ (count : Key → ℕ) where
  first_counted : (x : Key) (keys : List Key) → AreCounted count (x ∷ keys) → 1 ≤ count x
  first_counted x keys h = let a = times_more x x keys in let b = own x in let c = h x in omega (arith, a, b, c)

  others_counted : (x : Key) (keys : List Key) → AreCounted count (x ∷ keys) → AreCounted count keys
  others_counted x keys h k = let a = times_more k x keys in let c = h k in omega (arith, a, c)

  below_counted : (deep : Bool) (n : Path) (p : Path) → AreCounted count (keys_from deep n p) → 1 ≤ count (below_key n)
  below_counted deep n [] h = first_counted (below_key n) (at_key n ∷ cond deep (deep_key n ∷ []) []) h
  below_counted deep n (x ∷ p) h = first_counted (below_key n) (keys_from deep (n ++ x ∷ []) p) h

  at_counted : (deep : Bool) (n : Path) → AreCounted count (keys_from deep n []) → 1 ≤ count (at_key n)
  at_counted deep n h = first_counted (at_key n) (cond deep (deep_key n ∷ []) []) (others_counted (below_key n) (at_key n ∷ cond deep (deep_key n ∷ []) []) h)

  deep_counted : (n : Path) → AreCounted count (keys_from true n []) → 1 ≤ count (deep_key n)
  deep_counted n h = first_counted (deep_key n) [] (others_counted (at_key n) (deep_key n ∷ []) (others_counted (below_key n) (at_key n ∷ deep_key n ∷ []) h))

  -- the key of its own path is counted
  pub seated_on : (deep : Bool) (n : Path) (p : Path) → AreCounted count (keys_from deep n p) → 1 ≤ count (at_key (n ++ p))
  seated_on deep n [] h = subst (λ (q : Path). 1 ≤ count (at_key q)) (sym (append-nil n)) (at_counted deep n h)
  seated_on deep n (x ∷ p) h =
      subst (λ (q : Path). 1 ≤ count (at_key q)) (append_assoc n (x ∷ []) p)
      (seated_on deep (n ++ x ∷ []) p (others_counted (below_key n) (keys_from deep (n ++ x ∷ []) p) h))

  -- a lock on the path
  on_path : (asked deep : Bool) (n : Path) (p : Path) → AreCounted count (keys_from deep n p) → 1 ≤ weight_from count asked n p
  on_path true deep n [] h = below_counted deep n [] h
  on_path false deep n [] h = at_counted deep n h
  on_path asked deep n (x ∷ p) h =
      let a = on_path asked deep (n ++ x ∷ []) p (others_counted (below_key n) (keys_from deep (n ++ x ∷ []) p) h) in
      omega (arith, a)

  -- a lock of infinite depth above the path
  above_path : (asked : Bool) (n : Path) (q : Path) (x : List ℕ) (r : Path) → AreCounted count (keys_from true n q) → 1 ≤ weight_from count asked n (q ++ x ∷ r)
  above_path asked n [] x r h = let a = deep_counted n h in omega (arith, a)
  above_path asked n (y ∷ q) x r h =
      let a = above_path asked (n ++ y ∷ []) q x r (others_counted (below_key n) (keys_from true (n ++ y ∷ []) q) h) in
      omega (arith, a)

  -- a lock on the path or below it, where these are asked for
  below_path : (deep : Bool) (n : Path) (p r : Path) → AreCounted count (keys_from deep n (p ++ r)) → 1 ≤ weight_from count true n p
  below_path deep n [] r h = below_counted deep n r h
  below_path deep n (y ∷ p) r h =
      let a = below_path deep (n ++ y ∷ []) p r (others_counted (below_key n) (keys_from deep (n ++ y ∷ []) (p ++ r)) h) in
      omega (arith, a)

  covering_counts : (asked : Bool) (l : Lock) (p : Path) → AreCounted count (path_keys l.deep (names l.path)) → CoveringWay l p → 1 ≤ weight count asked p
  covering_counts asked l p h (inl same) = subst (λ (q : Path). 1 ≤ weight count asked q) same (on_path asked l.deep [] (names l.path) h)
  covering_counts asked l p h (inr (x, r, deep, is)) =
      subst (λ (q : Path). 1 ≤ weight count asked q) (sym is)
      (above_path asked [] (names l.path) x r (subst (λ (d : Bool). AreCounted count (path_keys d (names l.path))) deep h))

  lying_counts : (l : Lock) (p : Path) → AreCounted count (path_keys l.deep (names l.path)) → (o : Option Path) → rest_after p (names l.path) ≡ o → is_some o ≡ true → 1 ≤ weight count true p
  lying_counts l p h None at under = cc
  lying_counts l p h (Some r) at under =
      below_path l.deep [] p r (subst (λ (q : Path). AreCounted count (path_keys l.deep q)) (from_rest p (names l.path) r at) h)

  mattering_by : (asked : Bool) (l : Lock) (p : Path) → AreCounted count (path_keys l.deep (names l.path))
      → (c : Bool) → covers l p ≡ c → (c || (asked && is_at_or_under (names l.path) p)) ≡ true → 1 ≤ weight count asked p
  mattering_by asked l p h true covering m = covering_counts asked l p h (covering_way l p covering)
  mattering_by true l p h false covering m = lying_counts l p h (rest_after p (names l.path)) refl m
  mattering_by false l p h false covering m = cc

-- how many locks have a key, of this one
abbrev pub of_one : Lock → Key → ℕ
of_one l k = times k (path_keys l.deep (names l.path))

-- and of a list
abbrev of_all : List Lock → Key → ℕ
of_all ls k = tally k ls

weights_add : (f g : Key → ℕ) (asked : Bool) (n : Path) (p : Path) → weight_from (λ k. f k + g k) asked n p ≡ weight_from f asked n p + weight_from g asked n p
weights_add f g asked n [] = refl
weights_add f g asked n (x ∷ p) = let a = weights_add f g asked (n ++ x ∷ []) p in omega (arith, a)

weights_alike : (f g : Key → ℕ) → ((k : Key) → f k ≡ g k) → (asked : Bool) (n : Path) (p : Path) → weight_from f asked n p ≡ weight_from g asked n p
weights_alike f g alike asked n [] = alike (end_key asked n)
weights_alike f g alike asked n (x ∷ p) = let a = alike (deep_key n) in let b = weights_alike f g alike asked (n ++ x ∷ []) p in omega (arith, a, b)

module _ (asked : Bool) (p : Path) where
  -- the weight of a list is that of its locks
  weight_more : (l : Lock) (ls : List Lock) → weight (of_all (l ∷ ls)) asked p ≡ weight (of_one l) asked p + weight (of_all ls) asked p
  weight_more l ls =
      weights_alike (of_all (l ∷ ls)) (λ k. of_one l k + of_all ls k) (λ k. sum_by-cons (λ (x : Lock). times k (path_keys x.deep (names x.path))) l ls) asked [] p
      ∙ weights_add (of_one l) (of_all ls) asked [] p

  -- a lock that matters weighs something
  one_weighs : (l : Lock) → matters asked p l ≡ true → 1 ≤ weight (of_one l) asked p
  one_weighs l is = mattering_by (of_one l) asked l p (λ k. omega arith) (covers l p) refl is

  light_by : (l : Lock) → weight (of_one l) asked p ≤ 0 → (b : Bool) → matters asked p l ≡ b → b ≡ false
  light_by l light true is = let a = one_weighs l is in absurd (omega (arith, a, light))
  light_by l light false is = refl

  -- one that weighs nothing doesn't matter
  light : (l : Lock) → weight (of_one l) asked p ≤ 0 → matters asked p l ≡ false
  light l h = light_by l h (matters asked p l) refl

  none_of : (ls : List Lock) → weight (of_all ls) asked p ≤ 0 → list_any (matters asked p) ls ≡ false
  none_of [] h = refl
  none_of (l ∷ ls) h =
      let a = weight_more l ls in
      ap (λ b. b || list_any (matters asked p) ls) (light l (omega (arith, a, h)))
      ∙ none_of ls (omega (arith, a, h))

  -- a lock of the list that matters weighs something in it
  one_of : (l : Lock) (i : ℕ) (ls : List Lock) → i < length ls → get_or ls i l ≡ l → matters asked p l ≡ true → 1 ≤ weight (of_all ls) asked p
  one_of l i [] bound is m = none_below i bound
  one_of l zero (x ∷ ls) bound is m =
      let a = weight_more x ls in
      let b = one_weighs x (subst (λ (y : Lock). matters asked p y ≡ true) (sym is) m) in
      omega (arith, a, b)
  one_of l (suc i) (x ∷ ls) bound is m =
      let a = weight_more x ls in
      let b = one_of l i ls (less_suc i (length ls) bound) is m in
      omega (arith, a, b)

  -- where a list weighs one at most, a lock of it that matters is the only one
  pub matters_alone : (l : Lock) (i : ℕ) (ls : List Lock) → i < length ls → get_or ls i l ≡ l → matters asked p l ≡ true → weight (of_all ls) asked p ≤ 1 → MattersAlone asked p l ls
  matters_alone l i [] bound is m h = none_below i bound
  matters_alone l zero (x ∷ ls) bound is m h =
      let a = weight_more x ls in
      let b = one_weighs x (subst (λ (y : Lock). matters asked p y ≡ true) (sym is) m) in
      ([], ls, ap (λ (y : Lock). y ∷ ls) is, refl, none_of ls (omega (arith, a, b, h)))
  matters_alone l (suc i) (x ∷ ls) bound is m h =
      let a = weight_more x ls in
      let b = one_of l i ls (less_suc i (length ls) bound) is m in
      let (before, after, parts, none, others) = matters_alone l i ls (less_suc i (length ls) bound) is m (omega (arith, a, h)) in
      (x ∷ before, after, ap (λ (ms : List Lock). x ∷ ms) parts, ap (λ c. c || list_any (matters asked p) before) (light x (omega (arith, a, b, h))) ∙ none, others)

-- where the counts of a list say that no lock matters, none does
pub none_matters : (asked : Bool) (p : Path) (ls : List Lock) (count : Key → ℕ) → ((k : Key) → count k ≡ tally k ls) → weight count asked p ≡ 0 → list_any (matters asked p) ls ≡ false
none_matters asked p ls count h none =
    let a = weights_alike count (of_all ls) h asked [] p in
    none_of asked p ls (omega (arith, a, none))

-- where they say that one does at most, the list weighs one at most
pub only_counted : (asked : Bool) (p : Path) (ls : List Lock) (count : Key → ℕ) → ((k : Key) → count k ≡ tally k ls) → weight count asked p ≡ 1 → weight (λ k. tally k ls) asked p ≤ 1
only_counted asked p ls count h one =
    let a = weights_alike count (of_all ls) h asked [] p in
    omega (arith, a, one)
