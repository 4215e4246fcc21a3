-- How worlds are saved and read, and which can be.
use Rattle.std.specs.Prelude.{◌<◌, ◌^◌, ℕ, zero, suc, List, [], ◌∷◌, Some, None, Option}
use Rattle.std.specs.List.{AllByRecursion}
use Rattle.dav_core.specs.Element.{ElementTree}
use Rattle.dav_core.specs.Path.{Path}
use Rattle.dav_core.specs.Property.{PropertyKey, Properties}
use Rattle.dav_core.specs.World.{World, Node, Kind, Folder, File}
use Rattle.dav_saved.specs.Spelling.{number, sized, pair, many}
use Rattle.dav_saved.specs.Reading.{Read, ◌>>=◌, number_at, sized_at, pair_at, list_at}
use Rattle.dav_saved.specs.Trees.{IsPair}
use Rattle.dav_saved.specs.Parts.{both, both_at, as_at, value, value_at, Fits64, HasLength64, AreAll, AreBoth, IsWithin, IsValue}

-- A folder is saved as 0, a file as 1 and its bytes.
abbrev pub kind : Kind → List ℕ
kind Folder = 0 ∷ []
kind (File bytes) = 1 ∷ sized bytes

-- reads a folder, or a file
unfoldable pub kind_at : List ℕ → Read Kind
kind_at [] = None
kind_at (zero ∷ rest) = Some (Folder, rest)
kind_at (suc zero ∷ rest) = do
  t ← sized_at rest
  Some (File t.0, t.1)
kind_at (suc (suc b) ∷ rest) = None

-- A path is saved as the list of its names.
abbrev pub path : Path → List ℕ
path = many sized

-- A property is saved as its namespace and name, and its element, which may be missing.
abbrev pub property : PropertyKey × Option ElementTree → List ℕ
property = both pair value

-- the fields of a node, in the order in which they are saved
abbrev pub Fields : Type 0
Fields = ℕ × (ℕ × (Kind × (Properties × (ℕ × ℕ))))

-- The fields of this node.
abbrev pub fields_of : Node → Fields
fields_of n = (n.made, (n.number, (n.kind, (n.properties, (n.created, n.modified)))))

-- the node of these fields
abbrev pub node_of : Fields → Node
node_of f = record { made = f.0; number = f.1.0; kind = f.1.1.0; properties = f.1.1.1.0; created = f.1.1.1.1.0; modified = f.1.1.1.1.1 }

-- The fields of a node are saved one after another.
abbrev pub fields : Fields → List ℕ
fields = both number (both number (both kind (both (many property) (both number number))))

-- A node is saved as its fields.
abbrev pub node : Node → List ℕ
node n = fields (fields_of n)

-- A node at a path is saved as the path and then the node.
abbrev pub entry : Path × Node → List ℕ
entry = both path node

-- A world is saved as the number that its next change takes, and the list of its nodes with their
-- paths.
abbrev pub world : World → List ℕ
world w = both number (many entry) (w.next, w.nodes)

-- the world of a next number and nodes
abbrev pub world_of : ℕ × List (Path × Node) → World
world_of p = record { nodes = p.1; next = p.0 }

-- reads a property, whose element has at most this many levels
unfoldable pub property_at : ℕ → List ℕ → Read (PropertyKey × Option ElementTree)
property_at levels bytes = both_at pair_at (value_at levels) bytes

-- reads the fields of a node
unfoldable pub fields_at : ℕ → List ℕ → Read Fields
fields_at levels bytes = both_at number_at (both_at number_at (both_at kind_at (both_at (list_at (property_at levels)) (both_at number_at number_at)))) bytes

-- reads a node, the elements of whose properties have at most this many levels
unfoldable pub node_at : ℕ → List ℕ → Read Node
node_at levels bytes = as_at node_of (fields_at levels) bytes

-- reads a path and a node
unfoldable pub entry_at : ℕ → List ℕ → Read (Path × Node)
entry_at levels bytes = both_at (list_at sized_at) (node_at levels) bytes

-- reads a world, the elements of whose properties have at most this many levels
unfoldable pub world_at : ℕ → List ℕ → Read World
world_at levels bytes = as_at world_of (both_at number_at (list_at (entry_at levels))) bytes

-- A folder can be saved, and a file whose length has 64 bits.
abbrev pub IsKind : Kind → Type 0
IsKind Folder = Unit {0}
IsKind (File bytes) = HasLength64 bytes

-- which properties can be saved and read
abbrev pub AreSaveableProperties : ℕ → Properties → Type 0
AreSaveableProperties levels ps = AreAll (AreBoth IsPair (IsValue levels)) ps

-- Which nodes can be saved and read: those of numbers and lengths of 64 bits, of texts in UTF-8,
-- and of elements of at most this many levels.
abbrev pub IsSaveableNode : ℕ → Node → Type 0
IsSaveableNode levels n = AreBoth Fits64 (AreBoth Fits64 (AreBoth IsKind (AreBoth (AreSaveableProperties levels) (AreBoth Fits64 Fits64)))) (fields_of n)

-- Which worlds can be saved and read: those of such nodes, at paths whose lengths have 64 bits.
abbrev pub IsSaveableWorld : ℕ → World → Type 0
IsSaveableWorld levels w = (w.next < 2 ^ 64) × AreAll (AreBoth (AreAll HasLength64) (IsSaveableNode levels)) w.nodes

-- no element of these properties has more than this many levels
abbrev pub AreWithin : ℕ → Properties → Type 0
AreWithin levels ps = AllByRecursion (λ p. IsWithin levels p.1) ps
