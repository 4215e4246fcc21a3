-- An element is deeper than each of its children.
use Rattle.std.specs.Prelude.{suc, ◌≤◌, List, [], ◌∷◌, map}
use Rattle.std.proofs.Common.{arith}
use denote.Param.Weighed.{most}
use Rattle.dav_core.specs.Element.{depth_among}
use Rattle.dav_core.specs.declared.element.XmlNode.{XmlNode}
use Rattle.dav_core.specs.declared.element.XmlNode.TheVariants.{Element, Text}
use Rattle.dav_core.specs.declared.element.Element.TheInside.{Inside}
use Rattle.dav_core.specs.declared.element.Element.TheDeep.{deep-Element, deep-XmlNode}
use Rattle.dav_core.specs.Element.{trees}
use Rattle.dav_core.specs.ElementView.{node_tree}

-- The deepest of some children is at most one level deeper than their trees are.
pub most_deep : (nodes : List XmlNode) → most deep-XmlNode nodes ≤ suc (depth_among (trees (map node_tree nodes)))
most_deep [] = omega arith
most_deep (Element e ∷ ns) = omega (arith, most_deep ns)
most_deep (Text t ∷ ns) = omega (arith, most_deep ns)

-- An element is at most one level deeper than the trees of its children.
pub element_falls : (a : Inside) → deep-Element a ≤ suc (depth_among (trees (map node_tree a.children.items)))
element_falls a = omega (arith, most_deep a.children.items)
