-- What contracts see of an iterator over child elements.
use Rattle.std.specs.Prelude.{List, map}
use Rattle.std.specs.List.{filter}
use Rattle.dav_core.specs.Element.{ElementTree, is_element}
use Rattle.dav_core.specs.ElementView.{node_tree}
use Rattle.dav_core.specs.declared.element.ChildElems.{ChildElems}

-- The child elements that the iterator has still to give, in order.
abbrev pub elements_left : ChildElems → List ElementTree
elements_left s = filter is_element (map node_tree s.rest.now)
