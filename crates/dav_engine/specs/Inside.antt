-- What a client can read in a folder: what is at it and below it, without change numbers and times.
use Rattle.std.specs.Prelude.{◌≡◌, ◌++◌, true, Option, Some}
use Rattle.std.specs.Option.{option_map}
use Rattle.dav_core.specs.Path.{Path, is_under}
use Rattle.dav_core.specs.Property.{Properties}
use Rattle.dav_core.specs.World.{Kind, Node, World, node_at, is_folder, IsWorld}

-- What a client reads of a folder or file: which of both it is, a file with its bytes, and its dead properties.
abbrev pub Content : Type 0
Content = Kind × Properties

-- The content of a folder or file: without its change numbers and times.
abbrev pub content_of : Node → Content
content_of n = (n.kind, n.properties)

-- The content at each path that is relative to a folder, where something is there.
abbrev pub inside : World → Path → Path → Option Content
inside w folder rest = option_map content_of (node_at w (folder ++ rest))

-- Two worlds have the same content at a folder and at every path below it.
abbrev pub SameInside : Path → World → World → Type 0
SameInside folder w v = (rest : Path) → inside w folder rest ≡ inside v folder rest

-- There is a folder at each path above this one (RFC 4918, section 5.1).
abbrev pub HasFoldersAbove : Path → World → Type 0
HasFoldersAbove folder w = (p : Path) → is_under folder p ≡ true → is_folder w p ≡ true

-- in a world there are folders above whatever is there (RFC 4918, section 5.1)
abbrev pub FoldersAreAbove : Type 0
FoldersAreAbove = (w : World) (p : Path) (n : Node) → IsWorld w → node_at w p ≡ Some n → HasFoldersAbove p w
