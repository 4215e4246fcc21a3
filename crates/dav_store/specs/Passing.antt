-- What holds of the elements that are kept as properties.
use Rattle.std.specs.Prelude.{IfSome}
use Rattle.std.specs.List.{AllByRecursion}
use Rattle.dav_core.specs.Element.{ElementTree}
use Rattle.dav_core.specs.Property.{Properties}
use Rattle.dav_core.specs.World.{Nodes}

-- this holds of the element of each of these properties that has one
abbrev pub PropertiesPass : (ElementTree → Type 0) → Properties → Type 0
PropertiesPass Passes ps = AllByRecursion (λ p. IfSome p.1 Passes) ps

-- this holds of each element that is kept as a property of one of these nodes
abbrev pub ElementsPass : (ElementTree → Type 0) → Nodes → Type 0
ElementsPass Passes ns = AllByRecursion (λ e. PropertiesPass Passes e.1.properties) ns
