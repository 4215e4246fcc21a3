-- The index of a list of locks: a tree, each of whose nodes counts the locks at its path and below it.
use Rattle.std.specs.Prelude.{◌≡◌, ℕ, ◌+◌, ◌&&◌, ◌||◌, Bool, true, false, if◌then◌else◌, List, [], ◌∷◌, ◌++◌, Option, IfSome}
use Rattle.std.specs.List.{list_any, sum_by}
use Rattle.std.specs.Option.{option_map_or, is_some}
use Rattle.dav_core.specs.Path.{Path, names, is_same_path, is_at_or_under}
use Rattle.dav_core.specs.Locks.{Lock, covers}
use Rattle.dav_store.specs.Tree.{Tree}
use Rattle.dav_store.specs.Placed.{stands, IsNamedTree}
use Rattle.dav_store.specs.declared.memls.index.Kind.{Kind}
use Rattle.dav_store.specs.declared.memls.index.Kind.TheVariants.{Below, At, Deep}
use Rattle.dav_store.specs.declared.memls.index.Seat.{Seat}

-- the index of a list of locks: a tree whose nodes, by the names of their paths, count locks
abbrev pub Seats : Type 0
Seats = Tree (List ℕ) Seat

-- what holds of the tree of an index: any node may have children, under any names
abbrev pub IsSeatTree : Seats → Type 0
IsSeatTree t = IsNamedTree is_some (λ k. Unit {0}) t

-- how many locks of a kind a node of the index counts
abbrev pub seat_count : Kind → Seat → ℕ
seat_count Below s = s.below.count
seat_count At s = s.at.count
seat_count Deep s = s.deep.count

-- whether two kinds of locks are the same
abbrev pub same_kind : Kind → Kind → Bool
same_kind Below Below = true
same_kind At At = true
same_kind Deep Deep = true
same_kind a b = false

-- what a count of the index is of: a path, and a kind of locks there, those on it or below it, those on it, or those of infinite depth on
-- it
abbrev pub Key : Type 0
Key = Kind × Path

-- the key of the locks of this kind at a path
abbrev pub key_of : Kind → Path → Key
key_of kind q = (kind, q)

-- the key of the locks on a path or below it
abbrev pub below_key : Path → Key
below_key q = (Below, q)

-- the key of the locks on a path
abbrev pub at_key : Path → Key
at_key q = (At, q)

-- the key of the locks of infinite depth on a path
abbrev pub deep_key : Path → Key
deep_key q = (Deep, q)

-- whether two keys are of the same kind and the same path
abbrev pub same_key : Key → Key → Bool
same_key a b = same_kind a.0 b.0 && is_same_path a.1 b.1

-- the keys by which a lock is counted, from a front of its path on, with the names that follow the front
abbrev pub keys_from : Bool → Path → Path → List Key
keys_from deep q [] = below_key q ∷ at_key q ∷ (if deep then deep_key q ∷ [] else [])
keys_from deep q (x ∷ p) = below_key q ∷ keys_from deep (q ++ x ∷ []) p

-- the keys by which a lock on a path is counted: as one on it or below it at each path from the root to it, as one on it, and, where its
-- depth is infinite, as such a one on it
abbrev pub path_keys : Bool → Path → List Key
path_keys deep p = keys_from deep [] p

-- 1 where the keys are the same, else 0
unfoldable pub one_at : Key → Key → ℕ
one_at key k = if same_key key k then 1 else 0

-- how often a key is among these keys
abbrev pub times : Key → List Key → ℕ
times k keys = sum_by (λ x. one_at x k) keys

-- how many locks of a list are counted by a key
abbrev pub tally : Key → List Lock → ℕ
tally k ls = sum_by (λ l. times k (path_keys l.deep (names l.path))) ls

-- how many locks the index counts by a key, at the node of its path; none where there is no node
unfoldable pub count_of : Seats → Key → ℕ
count_of t k = option_map_or (seat_count k.0) (stands t k.1) 0

-- the index, where there is one, counts by each key as many locks as the function says
abbrev pub HasCounts : Option Seats → (Key → ℕ) → Type 0
HasCounts index f = IfSome index (λ t. (k : Key) → count_of t k ≡ f k)

-- The index, where there is one, is that of a list of locks: by each key it counts as many as the list has.
abbrev pub IsIndexOf : Option Seats → List Lock → Type 0
IsIndexOf index ls = HasCounts index (λ k. tally k ls)

-- a lock matters to a path: it covers it or, where `deep`, is on it or below it (RFC 4918, section 6.1)
abbrev pub matters : Bool → Path → Lock → Bool
matters deep p l = covers l p || (deep && is_at_or_under (names l.path) p)

-- the key of the locks on a path or, where `deep`, of those on it or below it
abbrev pub end_key : Bool → Path → Key
end_key deep q = if deep then below_key q else at_key q

-- How many locks may matter to a path at most, by these counts, from a front of it on with the names that follow: those of infinite depth
-- at each place before its end, and those that `end_key` counts at its end.
abbrev pub weight_from : (Key → ℕ) → Bool → Path → Path → ℕ
weight_from count deep q [] = count (end_key deep q)
weight_from count deep q (x ∷ p) = count (deep_key q) + weight_from count deep (q ++ x ∷ []) p

-- how many locks may matter to a path at most, by these counts: those of infinite depth above it, and those on it or, where `deep`, on it
-- or below it
abbrev pub weight : (Key → ℕ) → Bool → Path → ℕ
weight count deep p = weight_from count deep [] p

-- this lock of the list matters to a path, and no other one does
abbrev pub MattersAlone : Bool → Path → Lock → List Lock → Type 0
MattersAlone deep p l ls =
    (before : List Lock) × (after : List Lock) × (ls ≡ before ++ l ∷ after)
    × (list_any (matters deep p) before ≡ false) × (list_any (matters deep p) after ≡ false)
