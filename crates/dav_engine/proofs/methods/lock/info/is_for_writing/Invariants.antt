use Rattle.std.proofs.Common.{◌≡◌}
use Rattle.std.specs.List.{list_any}
use Rattle.dav_core.specs.ChildElements.{elements_left}
use Rattle.dav_core.specs.Element.{child_elements}
use Rattle.dav_engine.specs.LockInfo.{is_write_type}
use Rattle.dav_engine.proofs.methods.lock.info.is_for_writing.Given as goal

abbrev pub invariant-loop-part : goal.invariant-loop-part
invariant-loop-part l = list_any is_write_type (elements_left l.part-iterator) ≡ list_any is_write_type (child_elements l.element)
