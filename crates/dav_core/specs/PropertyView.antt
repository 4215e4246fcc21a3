-- What contracts see of a property.
use Rattle.std.specs.Prelude.{option_map, string_bytes}
use Rattle.dav_core.specs.Property.{Property}
use Rattle.dav_core.specs.declared.davprop.DavProp.TheInside.{Inside}

-- A property as contracts see it: its texts as bytes, its element as a tree.
abbrev pub property_of : Inside → Property
property_of p = record { name = string_bytes p.name; prefix = option_map string_bytes p.prefix; namespace = option_map string_bytes p.namespace; xml = p.xml }
