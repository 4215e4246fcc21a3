use Rattle.std.proofs.Common.{◌≡◌}
use Rattle.std.specs.List.{find}
use Rattle.dav_core.specs.ChildElements.{elements_left}
use Rattle.dav_core.specs.Element.{child_elements}
use Rattle.dav_presented.specs.Times.{is_kept}
use Rattle.dav_presented.proofs.times.told.kept_in_prop.Given as goal

abbrev pub invariant-loop-child : goal.invariant-loop-child
invariant-loop-child l = find is_kept (elements_left l.child-iterator) ≡ find is_kept (child_elements l.prop)
