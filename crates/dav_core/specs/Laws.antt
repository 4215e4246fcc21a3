-- What holds of every text, path, world and set of methods: the statements of the laws.
use Rattle.std.specs.Prelude.{◌≡◌, ◌≢◌, ◌↔◌, ◌++◌, ◌∷◌, ℕ, ◌+◌, ◌^◌, ◌<◌, ◌≤◌, Bool, true, false, T, length, List, [], All, Contains, Some, None}
use Rattle.dav_core.specs.declared.errors.ParseError.TheVariants.{InvalidPath, ForbiddenPath}
use Rattle.dav_core.specs.Path.{Path, PathText, IsName, IsSegment, parent_of, joined, path_bytes, star, names_of, IsParent, with_slash, IsCut, are_equal}
use Rattle.dav_core.specs.Target.{Leaves, Climbs, HasBadPiece, Reads, IsRefused}
use Rattle.dav_core.specs.UrlText.{url_text, IsTextOf}
use Rattle.dav_core.specs.declared.method.DavMethod.{DavMethod}
use Rattle.dav_core.specs.Method.{method_name, NamesMethod, Has, methods_in}
use Rattle.std.specs.FinMap.{is_sorted}
use Rattle.dav_core.specs.Property.{Properties, key_cmp}
use Rattle.dav_core.specs.World.{World, Node, Kind, IsWorld, Renumbers, last_moment, last_number, empty_from, node_at, is_folder, with_new, adjust}

-- Decoded segments leave one path at most (RFC 3986, section 5.2.4).
abbrev pub LeavesOnePath : Type 0
LeavesOnePath = (ps : List (List ℕ)) (a b : Path) → Leaves ps a → Leaves ps b → a ≡ b

-- Decoded segments that leave a path don't climb above the root, and none of them is bad (RFC 3986, section 5.2.4).
abbrev pub LeavesNoFault : Type 0
LeavesNoFault = (ps : List (List ℕ)) (a : Path) → Leaves ps a → ¬ Climbs ps × ¬ HasBadPiece ps

-- Decoded segments have one first fault: where it is a `..` above the root, it isn't a bad segment (RFC 3986, section 5.2.4).
abbrev pub OneFault : Type 0
OneFault = (ps : List (List ℕ)) → Climbs ps → ¬ HasBadPiece ps

-- a text is read as one path at most (RFC 3986, section 3.3)
abbrev pub ReadsOnePath : Type 0
ReadsOnePath = (src a b : List ℕ) → Reads src a → Reads src b → a ≡ b

-- a text that is read isn't refused, neither as an invalid path nor as a forbidden one (RFC 3986, section 3.3)
abbrev pub ReadIsNotRefused : Type 0
ReadIsNotRefused =
    (src a : List ℕ) → Reads src a → ¬ IsRefused src InvalidPath × ¬ IsRefused src ForbiddenPath

-- a text is refused for one reason at most: not both as an invalid path and as a forbidden one (RFC 3986, section 3.3)
abbrev pub OneRefusal : Type 0
OneRefusal = (src : List ℕ) → IsRefused src InvalidPath → ¬ IsRefused src ForbiddenPath

-- no text is neither read nor refused (RFC 3986, section 3.3)
abbrev pub ReadOrRefused : Type 0
ReadOrRefused =
    (src : List ℕ) → ((a : List ℕ) → ¬ Reads src a) → ¬ IsRefused src InvalidPath → ¬ ¬ IsRefused src ForbiddenPath

-- The names that are read from the bytes of a path are the names that the path was made of (RFC 3986, section 3.3).
abbrev pub KeepsNames : Type 0
KeepsNames = (ns : Path) (closed : Bool) → All IsName ns → names_of (path_bytes ns closed) ≡ ns

-- the path that a text is read as has names only, whose bytes are below 256 (RFC 3986, section 3.3)
abbrev pub ReadsNames : Type 0
ReadsNames = (src a : List ℕ) → Reads src a → All IsName (names_of a) × All (All (λ b. b < 256)) (names_of a)

-- The star path has no names (RFC 9110, section 7.1).
abbrev pub StarHasNoNames : Type 0
StarHasNoNames = names_of star ≡ []

-- the URL text of a path that was read is read as this path again (RFC 3986, section 2.1)
abbrev pub ReadsAgain : Type 0
ReadsAgain =
    (src bytes written : List ℕ) → Reads src bytes → IsTextOf bytes written → Reads written bytes

-- The URL text of any path whose names are made of bytes below 256 is read again as that path (RFC 3986, section 2.1).
abbrev pub NamesReadAgain : Type 0
NamesReadAgain =
    (ns : Path) (closed : Bool) → All IsName ns → All (All (λ b. b < 256)) ns → Reads (url_text (path_bytes ns closed)) (path_bytes ns closed)

-- The empty world is a world, whatever change number comes next, but for 0 and any above the last (RFC 4918, section 5.1).
abbrev pub EmptyIsWorld : Type 0
EmptyIsWorld = (next : ℕ) → 0 < next → next ≤ last_number → IsWorld (empty_from next)

-- a new folder or file at a path of names, below a folder and where nothing is, leaves a world (RFC 4918, section 5.1)
abbrev pub NewKeepsWorld : Type 0
NewKeepsWorld =
    (w : World) (p : Path) (kind : Kind) (properties : Properties) (now : ℕ)
    → IsWorld w → w.next < last_number → node_at w p ≡ None → is_folder w (parent_of p) ≡ true
    → All IsName p → All (All (λ b. b < 256)) p → T (is_sorted key_cmp properties) → now ≤ last_moment
    → IsWorld (with_new w p kind properties now)

-- A change of the node at a path that takes the next change number leaves a world (RFC 4918, section 5.1).
abbrev pub ChangeKeepsWorld : Type 0
ChangeKeepsWorld =
    (w : World) (p : Path) (f : Node → Node)
    → IsWorld w → w.next < last_number → ((n : Node) → node_at w p ≡ Some n → Renumbers w.next n (f n))
    → IsWorld (record { nodes = adjust p f w.nodes; next = w.next + 1 })

-- two paths that were read have the same bytes exactly if their texts in a URL are equal (RFC 3986, section 2.1)
abbrev pub SameText : Type 0
SameText =
    (src other a b s t : List ℕ)
    → Reads src a → Reads other b → IsTextOf a s → IsTextOf b t → (a ≡ b) ↔ (s ≡ t)

-- The bytes of a path with a slash at the end are those of the closed path with the same names (RFC 3986, section 3.3).
abbrev pub SlashKeepsNames : Type 0
SlashKeepsNames =
    (ns : Path) (closed : Bool) → All IsName ns → with_slash (path_bytes ns closed) ≡ path_bytes ns true

-- The bytes of a path, a slash unless one is at their end, and a name are the bytes of the path with this name as its last
-- (RFC 3986, section 3.3).
abbrev pub AddsName : Type 0
AddsName =
    (ns : Path) (closed : Bool) (n : List ℕ)
    → All IsName ns → with_slash (path_bytes ns closed) ++ n ≡ path_bytes (ns ++ n ∷ []) false

-- a segment that is added to any path but the star path is the last of its names (RFC 3986, section 3.3)
abbrev pub AddsSegment : Type 0
AddsSegment =
    (bytes n : List ℕ) → IsSegment n → bytes ≢ star → names_of (with_slash bytes ++ n) ≡ names_of bytes ++ n ∷ []

-- a slash at the end adds no name, to any path but the star path (RFC 3986, section 3.3)
abbrev pub SlashAddsNoName : Type 0
SlashAddsNoName = (bytes : List ℕ) → bytes ≢ star → names_of (with_slash bytes) ≡ names_of bytes

-- the path of a member, whatever its name, isn't the star path (RFC 3986, section 3.3)
abbrev pub MemberIsNoStar : Type 0
MemberIsNoStar = (bytes n : List ℕ) → with_slash bytes ++ n ≢ star

-- a path has no more names than bytes (RFC 3986, section 3.3)
abbrev pub FewNames : Type 0
FewNames = (bytes : List ℕ) → length (names_of bytes) ≤ length bytes

-- the names in any bytes are segments (RFC 3986, section 3.3)
abbrev pub NamesAreSegments : Type 0
NamesAreSegments = (bytes : List ℕ) → All IsSegment (names_of bytes)

-- a name is a segment (RFC 3986, section 3.3)
abbrev pub NameIsSegment : Type 0
NameIsSegment = (n : List ℕ) → IsName n → IsSegment n

-- a path can be cut after any of its first names, and the other names are left
abbrev pub CutsAtNames : Type 0
CutsAtNames =
    (ps ns : Path) (closed : Bool)
    → IsCut (joined ps) (path_bytes (ps ++ ns) closed) (record { prefix = joined ps; bytes = path_bytes ns closed })

-- where a path of names is cut after any prefix, the names after those of the prefix are left
abbrev pub CutKeepsNames : Type 0
CutKeepsNames =
    (names : Path) (closed : Bool) (prefix : List ℕ) (cut : PathText)
    → All IsName names → IsCut prefix (path_bytes names closed) cut
    → (ns : Path) × (end : Bool) × (names ≡ names_of prefix ++ ns) × (cut.bytes ≡ path_bytes ns end)

-- the parent of a path of names has all names but the last (RFC 3986, section 3.3)
abbrev pub ParentOfNames : Type 0
ParentOfNames =
    (ns : Path) (closed : Bool)
    → All IsName ns → IsParent (path_bytes ns closed) (path_bytes (parent_of ns) true)

-- Whatever the bytes of a path are, its parent has all of its names but the last (RFC 3986, section 3.3).
abbrev pub ParentHasNames : Type 0
ParentHasNames = (bytes parent : List ℕ) → IsParent bytes parent → names_of parent ≡ parent_of (names_of bytes)

-- A path has one parent at most (RFC 3986, section 3.3).
abbrev pub OneParent : Type 0
OneParent = (bytes a b : List ℕ) → IsParent bytes a → IsParent bytes b → a ≡ b

-- A prefix cuts a path in one way at most.
abbrev pub OneCut : Type 0
OneCut = (prefix bytes : List ℕ) (a b : PathText) → IsCut prefix bytes a → IsCut prefix bytes b → a ≡ b

-- a text names one method at most, also where ASCII case is ignored (RFC 9110, section 9.1)
abbrev pub OneMethod : Type 0
OneMethod = (text : List ℕ) (m n : DavMethod) → NamesMethod text m → NamesMethod text n → m ≡ n

-- a method's name names the method (RFC 9110, section 9.1)
abbrev pub NameNames : Type 0
NameNames = (m : DavMethod) → NamesMethod (method_name m) m

-- The methods that are listed for a set are those that it has (RFC 9110, section 9.1).
abbrev pub MembersAreHad : Type 0
MembersAreHad = (set : ℕ) (m : DavMethod) → Contains (methods_in set) m ↔ Has set m

-- sets that have the same methods are one set (RFC 9110, section 9.1)
abbrev pub SameMethodsSameSet : Type 0
SameMethodsSameSet =
    (a b : ℕ) → a < 2 ^ 16 → b < 2 ^ 16 → ((m : DavMethod) → Has a m ↔ Has b m) → a ≡ b

-- a path is equal to itself
abbrev pub EqualToItself : Type 0
EqualToItself = (p : PathText) → are_equal p p ≡ true

-- of two equal paths each is equal to the other
abbrev pub EqualBothWays : Type 0
EqualBothWays = (p q : PathText) → are_equal p q ≡ true → are_equal q p ≡ true

-- paths that are equal to one path are equal
abbrev pub EqualThrough : Type 0
EqualThrough = (p q r : PathText) → are_equal p q ≡ true → are_equal q r ≡ true → are_equal p r ≡ true
