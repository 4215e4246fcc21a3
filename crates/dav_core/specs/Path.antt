-- Names and paths (RFC 3986, section 3.3).
use Rattle.std.specs.Prelude.{◌≡◌, ◌≢◌, ℕ, ◌==◌, ◌++◌, ◌⊎◌, Bool, true, false, if◌then◌else◌, ◌-◌, nat_lt, length, take, List, [], ◌∷◌, All, Contains, map, Option, Some, None, bytes_eq}
use Rattle.std.specs.List.{filter, flat_map, slice_split, ends_with, last_or}
use Rattle.std.specs.Option.{unwrap_or, is_some}
use Rattle.std.specs.declared.cmp.Ordering.{Ordering}
use Rattle.std.specs.Ordering.{nat_cmp, is_eq, on}
use Rattle.std.specs.Cmp.Lexicographic.{slice_cmp, pointwise}

-- `..`, the segment that means the parent
abbrev pub parent_piece : List ℕ
parent_piece = 46 ∷ 46 ∷ []

-- A segment that is empty or `.`, which names nothing.
abbrev pub IsBlank : List ℕ → Type 0
IsBlank p = (p ≡ []) ⊎ (p ≡ 46 ∷ [])

-- a zero byte or a slash, which no name holds
abbrev pub IsBarred : ℕ → Type 0
IsBarred b = (b ≡ 0) ⊎ (b ≡ 47)

-- A decoded segment with a zero byte or a slash in it, which can't be a name.
abbrev pub IsBad : List ℕ → Type 0
IsBad p = (b : ℕ) × IsBarred b × Contains p b

-- A name: nonempty bytes without a zero byte and without a slash, not `.` and not `..` (RFC 3986, section 3.3).
pub record IsName (p : List ℕ) : Type 0 where
  pub clean : All (λ b. (b ≢ 0) × (b ≢ 47)) p
  pub not_blank : ¬ IsBlank p
  pub not_parent : p ≢ parent_piece

-- A segment: nonempty bytes without a slash (RFC 3986, section 3.3). Each name is one.
abbrev pub IsSegment : List ℕ → Type 0
IsSegment p = (p ≢ []) × All (λ b. b ≢ 47) p

-- A path: the names from the root down. The root is the empty list (RFC 3986, section 3.3).
abbrev pub Path : Type 0
Path = List (List ℕ)

-- Names in the order of their bytes.
abbrev pub name_cmp : List ℕ → List ℕ → Ordering
name_cmp = slice_cmp nat_cmp

-- paths in order: name by name, names by their bytes, a path before what is below it
abbrev pub path_cmp : Path → Path → Ordering
path_cmp = slice_cmp name_cmp

-- Whether two paths have the same names.
abbrev pub is_same_path : Path → Path → Bool
is_same_path p q = is_eq (path_cmp p q)

-- the names of q that follow the front p; none where q is neither p nor below it
abbrev pub rest_after : Path → Path → Option Path
rest_after [] q = Some q
rest_after (x ∷ p) [] = None
rest_after (x ∷ p) (y ∷ q) = if is_eq (name_cmp x y) then rest_after p q else None

-- Whether q is p or below it.
abbrev pub is_at_or_under : Path → Path → Bool
is_at_or_under q p = is_some (rest_after p q)

-- Whether there is a path that isn't the root.
abbrev pub has_names : Option Path → Bool
has_names None = false
has_names (Some []) = false
has_names (Some (x ∷ rest)) = true

-- whether q is under p: p is a proper front of q
abbrev pub is_under : Path → Path → Bool
is_under q p = has_names (rest_after p q)

-- the path has no names: it is the root
abbrev pub is_root : Path → Bool
is_root [] = true
is_root (x ∷ p) = false

-- the fronts of a path, the root first and the path itself last
abbrev pub fronts : Path → List Path
fronts [] = [] ∷ []
fronts (x ∷ p) = [] ∷ map (λ q. x ∷ q) (fronts p)

-- The name of a path that has exactly one; else none.
abbrev pub only_name : Option Path → Option (List ℕ)
only_name None = None
only_name (Some []) = None
only_name (Some (x ∷ [])) = Some x
only_name (Some (x ∷ y ∷ rest)) = None

-- The path with all names but the last; the root is its own parent.
abbrev pub parent_of : Path → Path
parent_of [] = []
parent_of (x ∷ []) = []
parent_of (x ∷ y ∷ p) = x ∷ parent_of (y ∷ p)

-- The names of a path as bytes, each after a slash.
abbrev pub joined : Path → List ℕ
joined names = flat_map (λ n. 47 ∷ n) names

-- A path as bytes: its names, each after a slash, and a slash at the end where it is closed. The root is one slash (RFC 3986, section 3.3).
abbrev pub path_bytes : Path → Bool → List ℕ
path_bytes [] closed = 47 ∷ []
path_bytes (n ∷ ns) closed = joined (n ∷ ns) ++ (if closed then 47 ∷ [] else [])

-- `*`, the path of a request to the whole server (RFC 9110, section 7.1)
abbrev pub star : List ℕ
star = 42 ∷ []

-- Whether a list has an item.
abbrev pub is_nonempty : {X : Type 0} → List X → Bool
is_nonempty [] = false
is_nonempty (x ∷ xs) = true

-- The names in bytes: what is between slashes and isn't empty. Of `*` that is one name, unlike in `names_of`.
abbrev pub names_in : List ℕ → Path
names_in bytes = filter is_nonempty (slice_split (λ b. b == 47) bytes)

-- the names in the bytes of a path: what is between slashes and isn't empty; the star path `*` has none (RFC 9110, section 7.1)
abbrev pub names_of : List ℕ → Path
names_of bytes = if bytes_eq bytes star then [] else names_in bytes

-- the path ends in a slash, as that of a collection (RFC 4918, section 5.2)
abbrev pub is_collection : List ℕ → Bool
is_collection bytes = ends_with ◌==◌ bytes (47 ∷ [])

-- The slash to add to a path so that it ends in one: none where it already does.
abbrev pub end_for : Bool → List ℕ
end_for is_collection = if is_collection then [] else 47 ∷ []

-- The path with a slash at its end, added where there is none (RFC 4918, section 5.2).
abbrev pub with_slash : List ℕ → List ℕ
with_slash bytes = bytes ++ end_for (is_collection bytes)

-- The path without the one slash at its end, if it ends in one.
abbrev pub without_slash : List ℕ → List ℕ
without_slash bytes = if is_collection bytes then take (length bytes - 1) bytes else bytes

-- The bytes without the slash that they begin with, if they do.
abbrev pub without_first_slash : List ℕ → List ℕ
without_first_slash [] = []
without_first_slash (b ∷ bs) = if b == 47 then bs else b ∷ bs

-- The path without the one slash at its end; a path of one byte stays.
abbrev pub trimmed : List ℕ → List ℕ
trimmed bytes = if nat_lt 1 (length bytes) then without_slash bytes else bytes

-- A path ends in a segment below this parent: the parent ends in a slash, the segment follows it, and slashes or nothing
-- follow the segment (RFC 3986, section 3.3).
pub record IsAbove (parent bytes : List ℕ) : Type 0 where
  pub front : List ℕ
  pub segment : List ℕ
  pub slashes : List ℕ
  pub ends : parent ≡ front ++ 47 ∷ []
  pub named : IsSegment segment
  pub closing : All (λ b. b ≡ 47) slashes
  pub whole : bytes ≡ parent ++ segment ++ slashes

-- The parent of a path: everything before its last segment. A path without names, as the root and the star path, is its own
-- parent; that of one name without a slash before it is empty (RFC 3986, section 3.3).
abbrev pub IsParent : List ℕ → List ℕ → Type 0
IsParent bytes parent =
    IsAbove parent bytes
    ⊎ ((parent ≡ (if is_root (names_of bytes) then bytes else [])) × ((q : List ℕ) → ¬ IsAbove q bytes))

-- The last name in the bytes of a path; empty where there are no names.
abbrev pub last_name : List ℕ → List ℕ
last_name bytes = unwrap_or (last_or None (names_of bytes)) []

-- What contracts see of a path: the bytes of its prefix, and those after it.
pub record PathText : Type 0 where
  pub prefix : List ℕ
  pub bytes : List ℕ

-- all bytes of a path
abbrev pub full_bytes : PathText → List ℕ
full_bytes p = p.prefix ++ p.bytes

-- Two paths are equal: their full bytes are, each without one slash at the end if it is longer than one byte.
abbrev pub are_equal : PathText → PathText → Bool
are_equal = on (λ p. trimmed (full_bytes p)) (pointwise ◌==◌)

-- the path with these bytes after its prefix
abbrev pub with_bytes : PathText → List ℕ → PathText
with_bytes p bytes = record { prefix = p.prefix; bytes = bytes }

-- the names of a path after its prefix
abbrev pub names : PathText → Path
names p = names_of p.bytes

-- How a path is cut after a prefix: an empty prefix leaves all of it; a prefix that a slash follows leaves what begins with
-- that slash; and one that is all of the path leaves a slash, which is added.
pub data IsCut (prefix bytes : List ℕ) (cut : PathText) : Type 0 where
  at_start : prefix ≡ [] → cut ≡ record { prefix = []; bytes = bytes } → IsCut prefix bytes cut
  at_slash : {rest : List ℕ} → bytes ≡ prefix ++ 47 ∷ rest → cut ≡ record { prefix = prefix; bytes = 47 ∷ rest } → IsCut prefix bytes cut
  at_end : prefix ≢ [] → bytes ≡ prefix → cut ≡ record { prefix = prefix; bytes = 47 ∷ [] } → IsCut prefix bytes cut

-- the path can't be cut after the prefix
abbrev pub HasNoCut : List ℕ → List ℕ → Type 0
HasNoCut prefix bytes = (cut : PathText) → ¬ IsCut prefix bytes cut
