-- What is at a path and below it.
use Rattle.std.specs.Prelude.{◌≡◌, ◌++◌, Bool, List, [], ◌∷◌, map, Some, ℕ}
use Rattle.std.specs.List.{filter}
use Rattle.std.specs.FinMap.{find}
use Rattle.dav_core.specs.Path.{Path, path_cmp, is_at_or_under}
use Rattle.dav_core.specs.World.{Node, Nodes}

-- the nodes at p and below it, with their paths
abbrev pub under : Path → Nodes → Nodes
under p ns = filter (λ e. is_at_or_under e.0 p) ns

-- the paths of these nodes
abbrev pub paths_of : Nodes → List Path
paths_of ns = map (λ e. e.0) ns

-- the nodes at and below each of these members of p, one member after another
abbrev pub blocks : Path → Nodes → List (List ℕ × Bool) → Nodes
blocks p ns [] = []
blocks p ns (m ∷ ms) = under (p ++ m.0 ∷ []) ns ++ blocks p ns ms

-- at each path above a node there is a node
abbrev pub IsClosed : Nodes → Type 0
IsClosed ns = (a b : Path) (m : Node) → find path_cmp (a ++ b) ns ≡ Some m → (k : Node) × (find path_cmp a ns ≡ Some k)
