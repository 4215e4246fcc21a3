use Rattle.std.proofs.Common.{◌≡◌}
use Rattle.dav_core.specs.ChildElements.{elements_left}
use Rattle.dav_core.specs.Element.{child_elements}
use Rattle.dav_presented.specs.Times.{kept_in_props}
use Rattle.dav_presented.proofs.times.told.kept_in_propstat.Given as goal

abbrev pub invariant-loop-child : goal.invariant-loop-child
invariant-loop-child l = kept_in_props (elements_left l.child-iterator) ≡ kept_in_props (child_elements l.propstat)
