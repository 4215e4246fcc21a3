-- What contracts see of what is declared within an element.
use Rattle.std.specs.Prelude.{List, ℕ, map}
use Rattle.dav_core.specs.ElementView.{attribute_bytes}
use Rattle.dav_xml.specs.declared.written.Place.{Place}
use Rattle.dav_xml.specs.Scopes.{Scope, pair_bytes}

-- what contracts see of a place in a tree that is written: the attributes of its element, and the prefixes that are declared within it
abbrev pub place_view : Place → List (List ℕ × List ℕ) × Scope
place_view p = (map attribute_bytes p.attributes.items, map pair_bytes p.scope.items)
