use Rattle.std.proofs.Common.{◌≡◌, ◌||◌}
use Rattle.std.specs.List.{list_any}
use Rattle.dav_core.specs.ChildElements.{elements_left}
use Rattle.dav_core.specs.Element.{ElementTree}
use Rattle.dav_presented.specs.Missing.{is_in_prop}
use Rattle.dav_presented.specs.Names.{is_same}
use Rattle.dav_presented.specs.NameSets.{has}
use Rattle.dav_presented.proofs.missing.add_prop.Given as goal

-- the names so far and those that are left are all
abbrev pub invariant-loop-property : goal.invariant-loop-property
invariant-loop-property l = (e : ElementTree) → (has e l.names || list_any (λ f. is_same e f) (elements_left l.property-iterator)) ≡ (has e l.fn.names || is_in_prop e l.prop)
