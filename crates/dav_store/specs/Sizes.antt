-- How many bytes dead properties have (RFC 4331, section 4; RFC 4918, section 4).
use Rattle.std.specs.Prelude.{ℕ, ◌+◌, List, Option, length}
use Rattle.std.specs.List.{sum_by}
use Rattle.std.specs.Option.{option_map_or}
use Rattle.dav_core.specs.Element.{ElementTree, ElementTrees, element, text, no_trees, tree_then}
use Rattle.dav_core.specs.Property.{Properties, PropertyKey}

-- how many bytes two texts have
abbrev pub pair_len : List ℕ × List ℕ → ℕ
pair_len p = length p.0 + length p.1

-- how many bytes a text has; none where there is none
abbrev pub optional_len : Option (List ℕ) → ℕ
optional_len t = option_map_or length t 0

abbrev mutual
  -- how many bytes a tree has: those of all its names, prefixes, namespaces, attributes and texts
  pub tree_len : ElementTree → ℕ
  tree_len (element name prefix namespace attributes children) =
      (length name + optional_len prefix) + (optional_len namespace + (sum_by pair_len attributes + trees_len children))
  tree_len (text bytes) = length bytes

  -- how many bytes trees have together
  pub trees_len : ElementTrees → ℕ
  trees_len no_trees = 0
  trees_len (tree_then t ts) = tree_len t + trees_len ts

-- how many bytes a property has: those of its namespace and its name, and of its element
abbrev pub property_len : PropertyKey × Option ElementTree → ℕ
property_len e = pair_len e.0 + option_map_or tree_len e.1 0

-- how many bytes properties have together
abbrev pub properties_len : Properties → ℕ
properties_len ps = sum_by property_len ps
