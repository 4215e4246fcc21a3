-- What contracts see of the front of an element that is read.
use Rattle.std.specs.Prelude.{map, option_map, string_bytes}
use Rattle.dav_core.specs.ElementView.{attribute_bytes}
use Rattle.dav_saved.specs.declared.trees.Front.{Front}
use Rattle.dav_saved.specs.Trees as tree

-- the front of an element, as it is saved
abbrev pub front_view : Front → tree.Front
front_view f = (string_bytes f.name, (option_map string_bytes f.prefix, (option_map string_bytes f.namespace, map attribute_bytes f.attributes.items)))
