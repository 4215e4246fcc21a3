-- An element tree as JSON (RFC 8259).
use Rattle.std.specs.Prelude.{◌≡◌, ◌++◌, ℕ, List, map, codes, Option, Some, None}
use Rattle.json.specs.Token.{Token}
use Rattle.json.specs.Tree.{json_tokens}
use Rattle.json.specs.Written.{Written}
use Rattle.serde_json.specs.Data.{Data, null, string, array, object, Items, no_items, item, no_members, member}
use Rattle.serde_json.specs.View.{items_of}
use Rattle.serde_json.specs.Written.{outline}
use Rattle.dav_core.specs.Element.{ElementTree, element, text, ElementTrees, no_trees, tree_then}

-- a text as a string, or null where there is none
abbrev pub text_or_null : Option (List ℕ) → Data
text_or_null None = null
text_or_null (Some bytes) = string bytes

-- an attribute as an array of two strings, its name and its value
abbrev pub attribute_data : List ℕ × List ℕ → Data
attribute_data a = array (item (string a.0) (item (string a.1) no_items))

abbrev mutual
  -- An element as an object with five members, `attributes`, `children`, `name`, `namespace` and `prefix`; a text among its children as a
  -- string.
  pub tree_data : ElementTree → Data
  tree_data (element name prefix namespace attributes children) =
      object
      (member (codes "attributes") (array (items_of (map attribute_data attributes)))
      (member (codes "children") (array (children_data children))
      (member (codes "name") (string name)
      (member (codes "namespace") (text_or_null namespace)
      (member (codes "prefix") (text_or_null prefix) no_members)))))
  tree_data (text bytes) = string bytes

  -- children as the items of an array, in order
  pub children_data : ElementTrees → Items
  children_data no_trees = no_items
  children_data (tree_then t ts) = item (tree_data t) (children_data ts)

-- a body that is an element tree, as an object with the one member `element`
abbrev pub tree_body : ElementTree → Data
tree_body tree = object (member (codes "element") (tree_data tree) no_members)

-- ---- written a token at a time

-- the JSON tokens of a value, in order
abbrev pub tokens_of : Data → List Token
tokens_of d = json_tokens (outline d)

-- writing added these tokens after those that were there
pub record Adds (old new : Written) (tokens : List Token) : Type 0 where
  pub before : new.before ≡ old.before
  pub added : new.tokens ≡ old.tokens ++ tokens
