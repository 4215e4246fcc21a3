-- What is asked of a world that is read.
use Rattle.std.specs.Prelude.{◌≡◌, ◌≢◌, ◌<◌, ◌≤◌, ◌==◌, ◌&&◌, ◌||◌, ℕ, Bool, true, false, T, List, [], ◌∷◌, All, Option, Some, None, Result, Ok, Err}
use Rattle.std.specs.List.{AllByRecursion, list_any}
use Rattle.std.specs.FinMap.{find, is_sorted}
use Rattle.dav_core.specs.Path.{Path, path_cmp, parent_of, is_root, IsName}
use Rattle.dav_core.specs.Property.{key_cmp}
use Rattle.dav_core.specs.World.{Node, Nodes, is_folder_kind, is_folder_node, last_moment}
use Rattle.dav_saved.specs.declared.errors.LoadError.{LoadError}
use Rattle.dav_saved.specs.declared.errors.LoadError.TheVariants.{Memory, NotSaved}
use Rattle.dav_saved.specs.Reading.{Read}

-- What an error says of what reading gives, where only values of which this holds are taken: `NotSaved` that it gives none such; that
-- memory ran out says nothing.
abbrev pub Refuses : {Y : Type 0} → (Y → Type 0) → LoadError → Read Y → Type 0
Refuses Holds Memory read = Unit {0}
Refuses {Y = Y} Holds NotSaved read = (y : Y × List ℕ) → read ≡ Some y → ¬ Holds y.0

-- What a function returned, as contracts see it, that takes only values of which this holds: what reading gives, and it holds of that;
-- or an error.
abbrev pub GivesOnly : {X Y : Type 0} → (Y → Type 0) → (X → Y × List ℕ) → Result X LoadError → Read Y → Type 0
GivesOnly Holds view (Ok x) read = (read ≡ Some (view x)) × Holds (view x).0
GivesOnly Holds view (Err e) read = Refuses Holds e read

-- a name whose bytes are below 256
abbrev pub IsNameOfBytes : List ℕ → Type 0
IsNameOfBytes n = IsName n × All (λ b. b < 256) n

-- A node that may stand in a world whose next change number is this one: its last change number is not below the one under which it was
-- created, and below the next; its properties are in order of their keys; and its times can be shown as HTTP dates.
pub record IsFitNode (next : ℕ) (n : Node) : Type 0 where
  pub grown : n.made ≤ n.number
  pub below : n.number < next
  pub properties : T (is_sorted key_cmp n.properties)
  pub created : n.created ≤ last_moment
  pub modified : n.modified ≤ last_moment

-- a node that may stand in such a world, at a path of names
abbrev pub IsFit : ℕ → Path × Node → Type 0
IsFit next e = AllByRecursion IsNameOfBytes e.0 × IsFitNode next e.1

-- two nodes have no change number in common
abbrev pub IsApart : Path × Node → Path × Node → Type 0
IsApart e f = (e.1.number ≢ f.1.number) × ((e.1.made ≢ f.1.made) × ((e.1.made ≢ f.1.number) × (e.1.number ≢ f.1.made)))

-- no two of these nodes have a change number in common
abbrev pub AreApart : Nodes → Type 0
AreApart [] = Unit {0}
AreApart (e ∷ es) = AllByRecursion (IsApart e) es × AreApart es

-- this number is a change number of one of these nodes
abbrev pub is_taken : ℕ → Nodes → Bool
is_taken k ns = list_any (λ e. (k == e.1.number) || (k == e.1.made)) ns

-- the first of these nodes is at the root, a folder, and was created under number 0
abbrev pub begins_with_root : Nodes → Bool
begins_with_root [] = false
begins_with_root (e ∷ es) = is_root e.0 && (is_folder_kind e.1.kind && (e.1.made == 0))

-- Nodes as a world lists them: in the order of their paths, each path once, the root first, and no two with a change number in common.
pub record IsListing (ns : Nodes) : Type 0 where
  pub sorted : T (is_sorted path_cmp ns)
  pub root : begins_with_root ns ≡ true
  pub apart : AreApart ns

-- at the path above each of these nodes, a folder is among them
abbrev pub HaveFolders : Nodes → Nodes → Type 0
HaveFolders ns es = AllByRecursion (λ e. is_folder_node (find path_cmp (parent_of e.0) ns) ≡ true) es
