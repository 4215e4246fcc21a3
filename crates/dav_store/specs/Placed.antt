-- The paths and nodes of a tree whose keys are names.
use Rattle.std.specs.Prelude.{◌≡◌, ◌≢◌, ℕ, ◌+◌, ◌==◌, nat_eq, Bool, true, false, if◌then◌else◌, List, [], ◌∷◌, map, reverse, Option, None, Some, Vec}
use Rattle.std.specs.Option.{option_and_then, option_map, option_map_or, IsSome}
use Rattle.std.specs.Ordering.{nat_cmp, eq_by_cmp}
use Rattle.std.specs.Cmp.Lexicographic.{pointwise}
use Rattle.std.specs.List.{IsDistinct}
use Rattle.std.specs.Map.{lookup, keys_of}
use Rattle.std.specs.FinMap.{put}
use Rattle.dav_core.specs.Path.{Path, path_cmp, IsSegment}
use Rattle.dav_core.specs.World.{Node as Seen, is_folder_node}
use Rattle.dav_store.specs.Tree.{Tree, Node, node, value_of, parent_of, children_of, child, root_id, NoneAbove}
use Rattle.dav_store.specs.Walks.{walk, climb}

-- whether two names have the same bytes
abbrev pub is_same_name : List ℕ → List ℕ → Bool
is_same_name = pointwise nat_eq

-- children with the bytes of their keys, without capacities
abbrev pub bare_children : {Z : Type 0} → List (Vec ℕ Z × ℕ) → List (List ℕ × ℕ)
bare_children es = map (λ e. (e.0.items, e.1)) es

module _ {Z D : Type 0} where
  -- a node with the bytes of its children's keys, without capacities
  abbrev pub bare_node : Node (Vec ℕ Z) D → Node (List ℕ) D
  bare_node x = record { parent = x.parent; value = x.value; children = bare_children x.children }

  -- a tree with the bytes of its keys, without capacities
  abbrev pub bare : Tree (Vec ℕ Z) D → Tree (List ℕ) D
  bare t = record { nodes = map (λ e. (e.0, bare_node e.1)) t.nodes; last = t.last }

-- the name of the first of these children under whose name `all` has this number; none where there is none
abbrev pub name_among : List (List ℕ × ℕ) → List (List ℕ × ℕ) → ℕ → Option (List ℕ)
name_among all [] m = None
name_among all (e ∷ es) m =
    if option_map_or (λ n. n == m) (lookup (is_same_name e.0) all) false then Some e.0
    else name_among all es m

module _ {D : Type 0} where
  -- the number of the child of a node under a name
  abbrev pub named : Tree (List ℕ) D → ℕ → List ℕ → Option ℕ
  named t n k = child is_same_name t n k

  -- the parent of this node, whose number is m, and its name there; none where it isn't among the parent's children
  abbrev pub seat_of : Tree (List ℕ) D → ℕ → Node (List ℕ) D → Option (Option (ℕ × List ℕ))
  seat_of t m x =
      option_map (λ k. Some (x.parent, k))
      (name_among (children_of t x.parent) (children_of t x.parent) m)

  -- Where the node of a number is, its parent and its name there: `Some None` for the root, and `None` where there is no node.
  abbrev pub seat : Tree (List ℕ) D → ℕ → Option (Option (ℕ × List ℕ))
  seat t m = if m == root_id then Some None else option_and_then (seat_of t m) (node t m)

  -- the values of these nodes by their paths, in order of the paths; a node without a path is left out
  abbrev pub by_path : Tree (List ℕ) D → List (ℕ × Node (List ℕ) D) → List (Path × D)
  by_path t [] = []
  by_path t (e ∷ es) =
      option_map_or (λ r. put path_cmp (reverse r) e.1.value (by_path t es))
      (climb (seat t) (t.last + 1) e.0) (by_path t es)

  -- the values of all nodes of a tree by their paths, in order of the paths
  abbrev pub placed : Tree (List ℕ) D → List (Path × D)
  placed t = by_path t t.nodes

  -- the number of the node that a path leads to from the root
  abbrev pub found : Tree (List ℕ) D → Path → Option ℕ
  found t q = walk (named t) root_id q

  -- the value of the node that a path leads to from the root
  abbrev pub stands : Tree (List ℕ) D → Path → Option D
  stands t q = option_and_then (value_of t) (found t q)

module _ {D : Type 0} (holds : Option D → Bool) (fits : List ℕ → Type 0) where
  -- The node m is the child of the node n under the name k: it isn't the root, it is there and has n as its parent, its name fits, and n
  -- may have children.
  pub record IsNamedChild (t : Tree (List ℕ) D) (n : ℕ) (k : List ℕ) (m : ℕ) : Type 0 where
    pub not_root : m ≢ root_id
    pub there : IsSome (value_of t m)
    pub parent : parent_of t m ≡ n
    pub name : fits k
    pub folder : holds (value_of t n) ≡ true

  -- What holds of a tree whose keys are names: only a node that is there may have children, and the root may; no node has a number above
  -- the last, and no two have one number; each child is one as `IsNamedChild` says, no node has two children of one name, and none is a
  -- child under two names; and each node is at a path.
  pub record IsNamedTree (t : Tree (List ℕ) D) : Type 0 where
    pub some : (o : Option D) → holds o ≡ true → IsSome o
    pub above : NoneAbove t
    pub numbers : IsDistinct (eq_by_cmp nat_cmp) (keys_of t.nodes)
    pub names : (n : ℕ) → IsDistinct is_same_name (keys_of (children_of t n))
    pub root : holds (value_of t root_id) ≡ true
    pub children : (n : ℕ) (k : List ℕ) (m : ℕ) → named t n k ≡ Some m → IsNamedChild t n k m
    pub once : (n : ℕ) (k l : List ℕ) (m : ℕ) → named t n k ≡ Some m → named t n l ≡ Some m → k ≡ l
    pub reached : (m : ℕ) → IsSome (value_of t m) → (q : Path) × (found t q ≡ Some m)

-- the node m is the child of the node n under the name k, in a tree of files and folders: names are path segments, and only folders have
-- children
abbrev pub IsChild : Tree (List ℕ) Seen → ℕ → List ℕ → ℕ → Type 0
IsChild t n k m = IsNamedChild is_folder_node IsSegment t n k m

-- what holds of a tree of files and folders: names are path segments, only folders have children, the root is a folder, and each node is
-- at one path
abbrev pub IsGrown : Tree (List ℕ) Seen → Type 0
IsGrown t = IsNamedTree is_folder_node IsSegment t

-- A map from the change numbers under which nodes were created to their numbers in the tree: it has each node, and nothing else.
pub record IsMadeMap (made : ℕ → Option ℕ) (t : Tree (List ℕ) Seen) : Type 0 where
  pub each : (m : ℕ) (v : Seen) → value_of t m ≡ Some v → made v.made ≡ Some m
  pub only : (n m : ℕ) → made n ≡ Some m → (v : Seen) × (value_of t m ≡ Some v) × (v.made ≡ n)
