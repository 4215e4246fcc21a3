-- How the logic stores properties.
use Rattle.std.specs.Prelude.{ℕ, List, Option}
use Rattle.std.specs.Coded.{Coded, code_by, coded_list, coded_option, coded×}
use Rattle.std.proofs.Common.{refl}
use Rattle.dav_core.specs.Element.{ElementTree}
use Rattle.dav_core.specs.ElementCode.{bytes_code, coded_tree}
use Rattle.dav_core.specs.Property.{Properties, Property}

-- How the logic stores a property: as its four parts.
abbrev pub coded_property : Coded Property
coded_property =
    code_by (List ℕ × (Option (List ℕ) × (Option (List ℕ) × Option ElementTree)))
    (coded× bytes_code (coded× (coded_option bytes_code) (coded× (coded_option bytes_code) (coded_option coded_tree))))
    (λ p. (p.name, (p.prefix, (p.namespace, p.xml)))) (λ q. record { name = q.0; prefix = q.1.0; namespace = q.1.1.0; xml = q.1.1.1 }) (λ _. refl)

-- How the logic stores properties: as the list of their keys and elements.
abbrev pub coded_properties : Coded Properties
coded_properties = coded_list (coded× (coded× bytes_code bytes_code) (coded_option coded_tree))
