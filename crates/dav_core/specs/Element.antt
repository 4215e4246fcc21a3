-- Element trees, which stand for XML (RFC 4918, section 14; XML 1.0, section 3, and Namespaces in XML 1.0).
use Rattle.std.specs.Prelude.{ℕ, suc, max, ◌==◌, ◌++◌, Bool, true, false, if◌then◌else◌, List, [], ◌∷◌, Option, Some, None, bytes_eq, codes}
use Rattle.std.specs.List.{filter, filter_map, concat, before_first, after_first, list_any}

mutual
  -- An element: its name, prefix and namespace, its attributes in order, and its children. Or a text among the children of one
  -- (XML 1.0, section 3; Namespaces in XML 1.0).
  pub data ElementTree : Type 0 where
    element : (name : List ℕ) (prefix namespace : Option (List ℕ)) (attributes : List (List ℕ × List ℕ)) (children : ElementTrees) → ElementTree
    text : (bytes : List ℕ) → ElementTree

  -- The children of an element, in order (XML 1.0, section 3).
  pub data ElementTrees : Type 0 where
    no_trees : ElementTrees
    tree_then : (first : ElementTree) (rest : ElementTrees) → ElementTrees

-- Children as a list.
abbrev pub tree_list : ElementTrees → List ElementTree
tree_list no_trees = []
tree_list (tree_then t ts) = t ∷ tree_list ts

-- A list as children.
abbrev pub trees : List ElementTree → ElementTrees
trees [] = no_trees
trees (t ∷ ts) = tree_then t (trees ts)

-- The name of an element, without its prefix; a text has an empty one.
abbrev pub name_of : ElementTree → List ℕ
name_of (element name prefix namespace attributes children) = name
name_of (text bytes) = []

-- The prefix of an element's name, if it has one; a text has none.
abbrev pub prefix_of : ElementTree → Option (List ℕ)
prefix_of (element name prefix namespace attributes children) = prefix
prefix_of (text bytes) = None

-- The namespace of an element's name, if it has one; a text has none.
abbrev pub namespace_of : ElementTree → Option (List ℕ)
namespace_of (element name prefix namespace attributes children) = namespace
namespace_of (text bytes) = None

-- The attributes of an element, in order (XML 1.0, section 3.1); a text has none.
abbrev pub attributes_of : ElementTree → List (List ℕ × List ℕ)
attributes_of (element name prefix namespace attributes children) = attributes
attributes_of (text bytes) = []

-- The children of an element, in order (XML 1.0, section 3.1); a text has none.
abbrev pub children_of : ElementTree → List ElementTree
children_of (element name prefix namespace attributes children) = tree_list children
children_of (text bytes) = []

-- An element with other attributes (XML 1.0, section 3.1); a text stays as it is.
abbrev pub with_attributes : ElementTree → List (List ℕ × List ℕ) → ElementTree
with_attributes (element name prefix namespace attributes children) others = element name prefix namespace others children
with_attributes (text bytes) others = text bytes

-- An element with other children (XML 1.0, section 3.1); a text stays as it is.
abbrev pub with_children : ElementTree → List ElementTree → ElementTree
with_children (element name prefix namespace attributes children) others = element name prefix namespace attributes (trees others)
with_children (text bytes) others = text bytes

-- An element with one more child, after the others (XML 1.0, section 3.1).
abbrev pub with_child : ElementTree → ElementTree → ElementTree
with_child e child = with_children e (children_of e ++ child ∷ [])

-- An element with this prefix and name, without a namespace, attributes and children (Namespaces in XML 1.0, section 4).
abbrev pub named : Option (List ℕ) → List ℕ → ElementTree
named prefix name = element name prefix None [] no_trees

-- An element with this qualified name: what comes before the first colon, if there is one, is its prefix, and what comes after
-- it its name (Namespaces in XML 1.0, section 4).
abbrev pub named_by : List ℕ → ElementTree
named_by bytes = if list_any (λ b. b == 58) bytes
    then named (Some (before_first (λ b. b == 58) bytes)) (after_first (λ b. b == 58) bytes)
    else named None bytes

-- The name of the attribute that declares the namespace of a prefix, `xmlns:PREFIX`; with an empty prefix `xmlns`, which
-- declares that of names without a prefix (Namespaces in XML 1.0, section 3).
abbrev pub xmlns_name : List ℕ → List ℕ
xmlns_name [] = codes "xmlns"
xmlns_name (b ∷ prefix) = codes "xmlns:" ++ b ∷ prefix

-- The attributes after the first one of this name got this value; where none has the name, a new one is added at the end
-- (Namespaces in XML 1.0, section 3).
abbrev pub set_attribute : List ℕ → List ℕ → List (List ℕ × List ℕ) → List (List ℕ × List ℕ)
set_attribute name value [] = (name, value) ∷ []
set_attribute name value (a ∷ others) = if bytes_eq a.0 name then (name, value) ∷ others else a ∷ set_attribute name value others

-- The bytes of a text; an element has none.
abbrev pub text_bytes : ElementTree → Option (List ℕ)
text_bytes (element name prefix namespace attributes children) = None
text_bytes (text bytes) = Some bytes

-- Texts joined in order, if there are any.
abbrev pub joined_texts : List (List ℕ) → Option (List ℕ)
joined_texts [] = None
joined_texts (t ∷ ts) = Some (concat (t ∷ ts))

-- The texts among an element's children, joined in order; none where it has no text.
abbrev pub text_of : ElementTree → Option (List ℕ)
text_of e = joined_texts (filter_map text_bytes (children_of e))

-- Whether a tree is an element, not a text.
abbrev pub is_element : ElementTree → Bool
is_element (element name prefix namespace attributes children) = true
is_element (text bytes) = false

-- The children of an element that are elements, in order (XML 1.0, section 3.1).
abbrev pub child_elements : ElementTree → List ElementTree
child_elements e = filter is_element (children_of e)

-- Whether a tree is an element of that name, in whatever namespace.
abbrev pub is_named : List ℕ → ElementTree → Bool
is_named wanted (element name prefix namespace attributes children) = bytes_eq name wanted
is_named wanted (text bytes) = false

abbrev mutual
  -- how many levels of elements are nested: 1 for an element without child elements, 0 for a text
  pub depth_of : ElementTree → ℕ
  depth_of (element name prefix namespace attributes children) = suc (depth_among children)
  depth_of (text bytes) = 0

  -- The depth of the deepest child; 0 without children.
  pub depth_among : ElementTrees → ℕ
  depth_among no_trees = 0
  depth_among (tree_then t ts) = max (depth_of t) (depth_among ts)
