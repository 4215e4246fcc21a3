use Rattle.std.proofs.Common.{◌≡◌}
use Rattle.std.specs.List.{list_all}
use Rattle.dav_core.specs.ChildElements.{elements_left}
use Rattle.dav_core.specs.Element.{child_elements}
use Rattle.dav_engine.specs.LockInfo.{is_known}
use Rattle.dav_engine.proofs.methods.lock.info.are_known.Given as goal

abbrev pub invariant-loop-part : goal.invariant-loop-part
invariant-loop-part l = list_all is_known (elements_left l.part-iterator) ≡ list_all is_known (child_elements l.element)
