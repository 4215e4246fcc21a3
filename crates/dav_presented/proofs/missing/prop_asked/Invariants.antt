use Rattle.std.proofs.Common.{◌≡◌}
use Rattle.dav_core.specs.ChildElements.{elements_left}
use Rattle.dav_core.specs.Element.{child_elements}
use Rattle.dav_presented.specs.Missing.{prop_among}
use Rattle.dav_presented.proofs.missing.prop_asked.Given as goal

abbrev pub invariant-loop-part : goal.invariant-loop-part
invariant-loop-part l = prop_among (elements_left l.part-iterator) ≡ prop_among (child_elements l.propfind)
