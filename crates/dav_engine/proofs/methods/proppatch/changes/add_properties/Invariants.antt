use Rattle.std.proofs.Common.{◌≡◌, ◌++◌}
use Rattle.dav_core.specs.ChildElements.{elements_left}
use Rattle.dav_core.specs.Element.{child_elements}
use Rattle.dav_engine.specs.Proppatch.{each_changed}
use Rattle.dav_engine.proofs.methods.proppatch.changes.add_properties.Given as goal

abbrev pub invariant-loop-property : goal.invariant-loop-property
invariant-loop-property l =
    l.changes.items ++ each_changed l.is_set (elements_left l.property-iterator) ≡ l.initial.changes.items ++ each_changed l.is_set (child_elements l.prop)
