-- How the logic stores a change of a property.
use Rattle.std.specs.Prelude.{Bool, refl}
use Rattle.std.specs.Coded.{Coded, code_by, coded_bool, coded×}
use Rattle.dav_core.specs.Element.{ElementTree}
use Rattle.dav_core.specs.ElementCode.{coded_tree}
use Rattle.dav_engine.specs.Proppatch.{Change}

-- a change is stored as the pair of its fields
abbrev pub coded_change : Coded Change
coded_change =
    code_by (Bool × ElementTree) (coded× coded_bool coded_tree) (λ c. (c.is_set, c.property)) (λ p. record { is_set = p.0; property = p.1 }) (λ _. refl)
