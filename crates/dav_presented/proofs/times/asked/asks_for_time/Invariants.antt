use Rattle.std.proofs.Common.{◌≡◌}
use Rattle.std.specs.List.{list_any}
use Rattle.dav_core.specs.ChildElements.{elements_left}
use Rattle.dav_core.specs.Element.{child_elements}
use Rattle.dav_presented.specs.Times.{is_time}
use Rattle.dav_presented.proofs.times.asked.asks_for_time.Given as goal

abbrev pub invariant-loop-child : goal.invariant-loop-child
invariant-loop-child l = list_any is_time (elements_left l.child-iterator) ≡ list_any is_time (child_elements l.prop)
