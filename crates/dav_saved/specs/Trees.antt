-- How element trees are saved and read, and which can be.
use Rattle.std.specs.Prelude.{◌≡◌, ◌<◌, ◌^◌, if◌then◌else◌, ℕ, zero, suc, Bool, true, false, List, [], ◌∷◌, ◌++◌, length, Option, Some, None, IfSome}
use Rattle.std.specs.List.{AllByRecursion}
use Rattle.std.specs.Str.{is_utf8}
use Rattle.dav_core.specs.Element.{ElementTree, ElementTrees, element, text, no_trees, tree_then, tree_list, trees, is_element}
use Rattle.dav_saved.specs.Spelling.{number, sized, optional, pair, many}
use Rattle.dav_saved.specs.Reading.{Read, ◌>>=◌, text_at, optional_at, pair_at, list_at}

-- the name, prefix, namespace and attributes of an element
abbrev pub Front : Type 0
Front = List ℕ × (Option (List ℕ) × (Option (List ℕ) × List (List ℕ × List ℕ)))

-- The front of an element is saved as its name, its prefix and its namespace, which may be missing,
-- and its attributes.
unfoldable pub front : Front → List ℕ
front f = sized f.0 ++ (optional f.1.0 ++ (optional f.1.1.0 ++ many pair f.1.1.1))

unfoldable mutual
  -- An element is saved as 0, its front, how many children it has, and each; a text as 1 and the
  -- text.
  pub tree : ElementTree → List ℕ
  tree (element n p s a c) = 0 ∷ front (n, (p, (s, a))) ++ (number (length (tree_list c)) ++ forest c)
  tree (text t) = 1 ∷ sized t

  -- Trees are saved one after another.
  pub forest : ElementTrees → List ℕ
  forest no_trees = []
  forest (tree_then t ts) = tree t ++ forest ts

-- reads the front of an element
unfoldable pub front_at : List ℕ → Read Front
front_at bytes = do
  n ← text_at bytes
  p ← optional_at n.1
  s ← optional_at p.1
  a ← list_at pair_at s.1
  Some ((n.0, (p.0, (s.0, a.0))), a.1)

-- the element of this front and these children
abbrev pub made : Front → List ElementTree → ElementTree
made f ts = element f.0 f.1.0 f.1.1.0 f.1.1.1 (trees ts)

-- reads an element, behind its 0, whose children are read so
unfoldable pub element_by : (List ℕ → Read ElementTree) → List ℕ → Read ElementTree
element_by child bytes = do
  f ← front_at bytes
  ts ← list_at child f.1
  Some (made f.0 ts.0, ts.1)

-- reads whether an element follows, or else a text
unfoldable pub tag_at : List ℕ → Read Bool
tag_at [] = None
tag_at (zero ∷ rest) = Some (true, rest)
tag_at (suc zero ∷ rest) = Some (false, rest)
tag_at (suc (suc b) ∷ rest) = None

-- reads a text among children, behind its 1
unfoldable pub text_node_at : List ℕ → Read ElementTree
text_node_at bytes = do
  t ← text_at bytes
  Some (text t.0, t.1)

-- reads a text, or an element that is read so
unfoldable pub tagged_at : (List ℕ → Read ElementTree) → List ℕ → Read ElementTree
tagged_at inner [] = None
tagged_at inner (zero ∷ rest) = inner rest
tagged_at inner (suc zero ∷ rest) = do
  t ← text_at rest
  Some (text t.0, t.1)
tagged_at inner (suc (suc b) ∷ rest) = None

-- reads nothing
abbrev pub nothing_at : List ℕ → Read ElementTree
nothing_at bytes = None

-- reads a tree that has at most this many levels of elements
unfoldable pub tree_at : ℕ → List ℕ → Read ElementTree
tree_at zero bytes = tagged_at nothing_at bytes
tree_at (suc levels) bytes = tagged_at (element_by (tree_at levels)) bytes

-- Which texts can be saved: those in UTF-8, of lengths of 64 bits.
abbrev pub IsText : List ℕ → Type 0
IsText t = (is_utf8 t ≡ true) × (length t < 2 ^ 64)

-- which pairs of texts can be saved
abbrev pub IsPair : List ℕ × List ℕ → Type 0
IsPair p = IsText p.0 × IsText p.1

-- which fronts of elements can be saved
abbrev pub IsFront : Front → Type 0
IsFront f = IsText f.0 × (IfSome f.1.0 IsText × (IfSome f.1.1.0 IsText × ((length f.1.1.1 < 2 ^ 64) × AllByRecursion IsPair f.1.1.1)))

abbrev mutual
  -- Which trees can be saved: those whose texts are UTF-8, and whose lengths have 64 bits.
  pub IsSaveable : ElementTree → Type 0
  IsSaveable (element n p s a c) = IsFront (n, (p, (s, a))) × ((length (tree_list c) < 2 ^ 64) × AreSaveable c)
  IsSaveable (text t) = IsText t

  -- each of these trees can be saved
  pub AreSaveable : ElementTrees → Type 0
  AreSaveable no_trees = Unit {0}
  AreSaveable (tree_then t ts) = IsSaveable t × AreSaveable ts

-- reads an element of at most this many levels; a text by itself is none
unfoldable pub element_from : ℕ → List ℕ → Read ElementTree
element_from levels bytes = do
  x ← tree_at levels bytes
  if is_element x.0 then Some x else None
