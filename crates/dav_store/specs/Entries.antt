-- Paths and nodes, as a store in memory keeps them.
use Rattle.std.specs.Prelude.{ℕ, nat_eq, Vec, refl}
use Rattle.std.specs.HashMap.{HashMap, get}
use Rattle.std.specs.Coded.{Coded, code_by, coded_ℕ, coded_list, coded×}
use Rattle.dav_core.specs.World.{Node as Seen, Nodes}
use Rattle.dav_core.specs.WorldCode.{coded_node}
use Rattle.dav_store.specs.Tree.{Tree}
use Rattle.dav_store.specs.Placed.{bare, placed, IsGrown, IsMadeMap}

-- how the logic encodes nodes by their paths
abbrev pub coded_nodes : Coded Nodes
coded_nodes = coded_list (coded× (coded_list (coded_list coded_ℕ)) coded_node)

-- what contracts see of the tree of a store in memory: its nodes by their paths, and the last number that the tree handed out
pub record Held : Type 0 where
  pub nodes : Nodes
  pub last : ℕ

-- how the logic encodes a `Held`: as the pair of its fields
abbrev pub coded_held : Coded Held
coded_held =
    code_by (Nodes × ℕ) (coded× coded_nodes coded_ℕ) (λ h. (h.nodes, h.last))
    (λ p. record { nodes = p.0; last = p.1 }) (λ _. refl)

-- the nodes of this tree by their paths, and the last number that it handed out
abbrev pub held_in : {Z : Type 0} → Tree (Vec ℕ Z) Seen → Held
held_in t = record { nodes = placed (bare t); last = t.last }

-- The tree of a store in memory is a tree of files and folders by their names, and the map has for the change number under which each
-- node was created its number in the tree.
pub record IsKept {Z S : Type 0} (tree : Tree (Vec ℕ Z) Seen) (made : HashMap ℕ ℕ S) : Type 0 where
  pub grown : IsGrown (bare tree)
  pub map : IsMadeMap (λ n. get nat_eq made n) (bare tree)
