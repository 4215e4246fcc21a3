-- Counts of keys, as locks come and go.
use Rattle.std.proofs.Common.{◌≡◌, ℕ, ◌+◌, Bool, true, false, List, [], ◌∷◌, ◌++◌, ap, sym, ◌∙◌, arith, append_assoc}
use Rattle.std.proofs.lemmas.List.Sums.{sum_by-cons}
use Rattle.dav_core.specs.Path.{Path}
use Rattle.dav_store.specs.LockIndex.{Key, below_key, at_key, deep_key, keys_from, times, one_at, weight_from}

pub times_more : (k x : Key) (keys : List Key) → times k (x ∷ keys) ≡ one_at x k + times k keys
times_more k x keys = sum_by-cons (λ y. one_at y k) x keys

-- the keys of one front more
pub keys_more : (k : Key) (n : Path) (deep : Bool) (left : Path) (x : List ℕ) (p : Path) → left ≡ x ∷ p
    → times k (keys_from deep n left) ≡ one_at (below_key n) k + times k (keys_from deep (n ++ x ∷ []) p)
keys_more k n deep left x p is = ap (λ q. times k (keys_from deep n q)) is ∙ times_more k (below_key n) (keys_from deep (n ++ x ∷ []) p)

-- the keys of the path itself
pub keys_deep : (k : Key) (n : Path) (left : Path) → left ≡ [] → times k (keys_from true n left) ≡ one_at (below_key n) k + (one_at (at_key n) k + one_at (deep_key n) k)
keys_deep k n left is =
    let a = times_more k (below_key n) (at_key n ∷ deep_key n ∷ []) in
    let b = times_more k (at_key n) (deep_key n ∷ []) in
    let c = times_more k (deep_key n) [] in
    ap (λ q. times k (keys_from true n q)) is ∙ (omega (arith, a, b, c))

pub keys_shallow : (k : Key) (n : Path) (left : Path) → left ≡ [] → times k (keys_from false n left) ≡ one_at (below_key n) k + one_at (at_key n) k
keys_shallow k n left is =
    let a = times_more k (below_key n) (at_key n ∷ []) in
    let b = times_more k (at_key n) [] in
    ap (λ q. times k (keys_from false n q)) is ∙ (omega (arith, a, b))

-- a walk goes on by one name
pub path_on : (q left rest all : Path) (x : List ℕ) → q ++ left ≡ all → left ≡ x ∷ rest → (q ++ x ∷ []) ++ rest ≡ all
path_on q left rest all x whole cut = append_assoc q (x ∷ []) rest ∙ ap (λ (r : Path). q ++ r) (sym cut) ∙ whole

pub weight_on : (f : Key → ℕ) (deep : Bool) (q left rest : Path) (x : List ℕ) → left ≡ x ∷ rest → weight_from f deep q left ≡ f (deep_key q) + weight_from f deep (q ++ x ∷ []) rest
weight_on f deep q left rest x cut = ap (weight_from f deep q) cut
