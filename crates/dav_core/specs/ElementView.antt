-- What contracts see of elements and their children.
use Rattle.std.specs.Prelude.{◌≡◌, ℕ, ◌<◌, Bool, true, false, List, length, take, slice_index_or, Option, None, Some, option_map, map, bytes_eq, string_bytes, String}
use Rattle.std.specs.List.{list_any}
use Rattle.std.specs.Global.{Global}
use Rattle.dav_core.specs.Element.{ElementTree, element, text, trees, is_named}
use Rattle.dav_core.specs.declared.element.XmlNode.{XmlNode}
use Rattle.dav_core.specs.declared.element.XmlNode.TheVariants.{Element, Text}
use Rattle.dav_core.specs.declared.element.Element.TheInside.{Inside}

-- A child of an element, an element or a text, as a tree.
abbrev pub node_tree : XmlNode → ElementTree
node_tree (Element e) = e
node_tree (Text t) = text (string_bytes t)

-- the bytes of an attribute's name and value
abbrev pub attribute_bytes : String Global × String Global → List ℕ × List ℕ
attribute_bytes a = (string_bytes a.0, string_bytes a.1)

-- An element as a tree.
abbrev pub tree_of : Inside → ElementTree
tree_of e = element (string_bytes e.name) (option_map string_bytes e.prefix) (option_map string_bytes e.namespace)
    (map attribute_bytes e.attributes.items) (trees (map node_tree e.children.items))

-- the first place at which a test passes; none where it passes nowhere
abbrev pub IsFirst : {X : Type 0} → (X → Bool) → List X → Option ℕ → Type 0
IsFirst test xs None = list_any test xs ≡ false
IsFirst {X} test xs (Some i) = (i < length xs) × (list_any test (take i xs) ≡ false) × ((d : X) → test (slice_index_or xs i d) ≡ true)

-- Whether an attribute has that name.
abbrev pub has_name : List ℕ → String Global × String Global → Bool
has_name name a = bytes_eq (string_bytes a.0) name

-- Whether a child is an element of that name.
abbrev pub is_node_named : List ℕ → XmlNode → Bool
is_node_named name n = is_named name (node_tree n)
