use Rattle.std.proofs.Common.{◌≡◌}
use Rattle.std.specs.List.{list_any}
use Rattle.dav_core.specs.ChildElements.{elements_left}
use Rattle.dav_core.specs.Element.{child_elements}
use Rattle.dav_presented.specs.Names.{is_same}
use Rattle.dav_presented.proofs.missing.is_in_prop.Given as goal

abbrev pub invariant-loop-child : goal.invariant-loop-child
invariant-loop-child l = list_any (λ f. is_same l.property f) (elements_left l.child-iterator) ≡ list_any (λ f. is_same l.property f) (child_elements l.prop)
