-- What contracts see of the attributes that are kept.
use Rattle.std.specs.Prelude.{map}
use Rattle.dav_core.specs.ElementView.{attribute_bytes}
use Rattle.dav_xml.specs.declared.namespaces.Kept.{Kept}
use Rattle.dav_xml.specs.Namespaces as spec

-- what contracts see of the attributes that are kept, and of the expanded names of those that have a prefix
abbrev pub kept_view : Kept → spec.Kept
kept_view k = (map attribute_bytes k.attributes.items, map attribute_bytes k.names.items)
