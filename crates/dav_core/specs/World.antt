-- What a file store holds: a finite map from paths to folders and files (RFC 4918, section 5), and the number
-- that the next change takes.
use Rattle.std.specs.Prelude.{◌≡◌, ℕ, ◌+◌, ◌-◌, ◌<◌, ◌≤◌, ◌==◌, ◌&&◌, ◌++◌, Bool, true, false, not, T, List, [], ◌∷◌, All, length, take, drop, replicate, Option, Some, None}
use Rattle.std.specs.List.{filter, filter_map, find as first}
use Rattle.std.specs.Option.{is_none, option_map}
use Rattle.std.specs.FinMap.{find, put, is_sorted}
use Rattle.dav_core.specs.Lists.{change_first}
use Rattle.dav_core.specs.Numbers.{max_u64}
use Rattle.dav_core.specs.Path.{Path, path_cmp, is_same_path, is_at_or_under, is_nonempty, rest_after, only_name, parent_of, IsName}
use Rattle.dav_core.specs.Property.{Properties, key_cmp}

-- a folder, or a file with its bytes
pub data Kind : Type 0 where
  Folder : Kind
  File : List ℕ → Kind

-- A folder or file: the change number under which it was created, the last change number that it took, what it is,
-- its dead properties, and when it was created and last changed, in seconds since 1970 (RFC 4918, section 5).
pub record Node : Type 0 where
  pub made : ℕ
  pub number : ℕ
  pub kind : Kind
  pub properties : Properties
  pub created : ℕ
  pub modified : ℕ

-- A finite map from paths to folders and files, as a list in the order of the paths.
abbrev pub Nodes : Type 0
Nodes = List (Path × Node)

-- What is stored: folders and files by their paths, and the number that the next change takes (RFC 4918, section 5).
pub record World : Type 0 where
  pub nodes : Nodes
  pub next : ℕ

-- The folder or file at a path; none where nothing is there.
abbrev pub node_at : World → Path → Option Node
node_at w p = find path_cmp p w.nodes

-- Whether it is a folder.
abbrev pub is_folder_kind : Kind → Bool
is_folder_kind Folder = true
is_folder_kind (File bytes) = false

-- The bytes of a file; a folder has none.
abbrev pub bytes_of : Kind → List ℕ
bytes_of Folder = []
bytes_of (File bytes) = bytes

-- Whether there is a node, and it is a folder.
abbrev pub is_folder_node : Option Node → Bool
is_folder_node None = false
is_folder_node (Some n) = is_folder_kind n.kind

-- Whether a folder is at the path.
abbrev pub is_folder : World → Path → Bool
is_folder w p = is_folder_node (node_at w p)

-- Whether there is a node, and it is a file.
abbrev pub is_file_node : Option Node → Bool
is_file_node None = false
is_file_node (Some n) = not (is_folder_kind n.kind)

-- Whether a file is at the path.
abbrev pub is_file : World → Path → Bool
is_file w p = is_file_node (node_at w p)

-- Whether nothing is at the path.
abbrev pub is_missing : World → Path → Bool
is_missing w p = is_none (node_at w p)

-- The nodes without those at p or below it.
abbrev pub prune : Path → Nodes → Nodes
prune p = filter (λ e. not (is_at_or_under e.0 p))

-- the nodes at p or below it, with the front p of their paths replaced by q
abbrev pub graft : Path → Path → Nodes → Nodes
graft p q = filter_map (λ e. option_map (λ rest. (q ++ rest, e.1)) (rest_after p e.0))

-- The nodes of both maps; where both have one at a path, that of the first.
abbrev pub union : Nodes → Nodes → Nodes
union [] ns = ns
union (e ∷ es) ns = put path_cmp e.0 e.1 (union es ns)

-- The map after what is at or below `from` moved to `to`, in the place of what was at or below `to`.
abbrev pub moved : Path → Path → Nodes → Nodes
moved from to ns = union (graft from to ns) (prune to (prune from ns))

-- The names of what is directly below p, each with whether it is a folder, in the order of their bytes (RFC 4918, section 5.2).
abbrev pub members : Path → Nodes → List (List ℕ × Bool)
members p = filter_map (λ e. option_map (λ name. (name, is_folder_kind e.1.kind)) (only_name (rest_after p e.0)))

-- Whether anything is directly below p.
abbrev pub has_members : World → Path → Bool
has_members w p = is_nonempty (members p w.nodes)

-- a node is a file that was created under this change number
abbrev pub is_file_made_with : ℕ → Path × Node → Bool
is_file_made_with made e = (e.1.made == made) && not (is_folder_kind e.1.kind)

-- The file that was created under this change number, if it is still there.
abbrev pub file_made_with : ℕ → Nodes → Option Node
file_made_with made ns = option_map (λ e. e.1) (first (is_file_made_with made) ns)

-- The change number that is never handed out, 2^64 - 1.
abbrev pub last_number : ℕ
last_number = max_u64

-- the end of the year 9999, the last moment that a date of HTTP can show (RFC 9110, section 5.6.7)
abbrev pub last_moment : ℕ
last_moment = 253402300799

-- The most bytes that a file holds, 2^31 - 1.
abbrev pub max_file_len : ℕ
max_file_len = 2147483647

-- Each path is there once, in order; the root is a folder, and so is the parent of whatever is there (RFC 4918,
-- section 5.1).
pub record IsTree (ns : Nodes) : Type 0 where
  pub sorted : T (is_sorted path_cmp ns)
  pub root : is_folder_node (find path_cmp [] ns) ≡ true
  pub parents : (p : Path) (n : Node) → find path_cmp p ns ≡ Some n → is_folder_node (find path_cmp (parent_of p) ns) ≡ true

-- These numbers of the nodes differ from one another, and are below the next change number.
pub record IsNumbered (number_of : Node → ℕ) (w : World) : Type 0 where
  pub below : (p : Path) (n : Node) → find path_cmp p w.nodes ≡ Some n → number_of n < w.next
  pub once : (p q : Path) (n m : Node) → find path_cmp p w.nodes ≡ Some n → find path_cmp q w.nodes ≡ Some m → number_of n ≡ number_of m → p ≡ q

-- A node is at a path of names, whose bytes are below 256; its last change number is not below the one under which it was
-- created; its properties are in order of their keys; and its times can be shown as HTTP dates.
pub record IsSound (p : Path) (n : Node) : Type 0 where
  pub names : All IsName p
  pub bytes : All (All (λ b. b < 256)) p
  pub grown : n.made ≤ n.number
  pub properties : T (is_sorted key_cmp n.properties)
  pub created : n.created ≤ last_moment
  pub modified : n.modified ≤ last_moment

-- What makes a map a world: a tree of sound nodes, in which no node has a number that another one has, the root was
-- created under number 0, and the next number is at most the last (RFC 4918, section 5.1; RFC 9110, section 5.6.7).
pub record IsWorld (w : World) : Type 0 where
  pub tree : IsTree w.nodes
  pub numbers : IsNumbered (λ n. n.number) w
  pub makings : IsNumbered (λ n. n.made) w
  pub apart : (p q : Path) (n m : Node) → find path_cmp p w.nodes ≡ Some n → find path_cmp q w.nodes ≡ Some m → n.made ≡ m.number → p ≡ q
  pub root_made : (n : Node) → find path_cmp [] w.nodes ≡ Some n → n.made ≡ 0
  pub next : w.next ≤ last_number
  pub sound : (p : Path) (n : Node) → find path_cmp p w.nodes ≡ Some n → IsSound p n

-- a new folder or file without properties, created at this moment under this change number
abbrev pub fresh : ℕ → Kind → ℕ → Node
fresh number kind now = record { made = number; number = number; kind = kind; properties = []; created = now; modified = now }

-- The empty world: the root, with change number 0 and both times 0, and the number that the next change takes.
abbrev pub empty_from : ℕ → World
empty_from next = record { nodes = ([], fresh 0 Folder 0) ∷ []; next = next }

-- The map with the first node changed that passes the test, all others as they were.
abbrev pub change_node : (Path × Node → Bool) → (Node → Node) → Nodes → Nodes
change_node test f = change_first test (λ e. (e.0, f e.1))

-- The map with the node at p changed, if there is one.
abbrev pub adjust : Path → (Node → Node) → Nodes → Nodes
adjust p = change_node (λ e. is_same_path p e.0)

-- The node, last changed at this moment.
abbrev pub modified_at : ℕ → Node → Node
modified_at now n = record n { modified = now }

-- The map in which the parent of p was last changed at this moment, as after a member was added, removed or moved.
abbrev pub touched : Path → ℕ → Nodes → Nodes
touched p now = adjust (parent_of p) (modified_at now)

-- The world with a new folder or file at p, created under the next change number. It would replace what is at p, so callers
-- make sure that nothing is.
abbrev pub with_new : World → Path → Kind → Properties → ℕ → World
with_new w p kind properties now = record {
  nodes = touched p now (put path_cmp p (record (fresh w.next kind now) { properties = properties }) w.nodes);
  next = w.next + 1;
}

-- A change of a node that takes this change number: the node keeps the number under which it was created, and stays a folder or stays a file.
pub record Renumbers (number : ℕ) (old new : Node) : Type 0 where
  pub made : new.made ≡ old.made
  pub number_is : new.number ≡ number
  pub kind : is_folder_kind new.kind ≡ is_folder_kind old.kind
  pub properties : T (is_sorted key_cmp new.properties)
  pub created : new.created ≤ last_moment
  pub modified : new.modified ≤ last_moment

-- The bytes b with the bytes c written over them from k on: b itself where c is empty; else b, filled with zeros up to k where
-- it is shorter, with c over the bytes from k on.
abbrev pub splice : List ℕ → ℕ → List ℕ → List ℕ
splice b k [] = b
splice b k (x ∷ c) = take k (b ++ replicate (k - length b) 0) ++ (x ∷ c) ++ drop (k + length (x ∷ c)) b
