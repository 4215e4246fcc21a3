use Rattle.std.proofs.Common.{◌≡◌}
use Rattle.std.specs.List.{filter_map, last_or}
use Rattle.dav_core.specs.ChildElements.{elements_left}
use Rattle.dav_core.specs.Element.{child_elements}
use Rattle.dav_engine.specs.LockInfo.{scope_of, last_scope}
use Rattle.dav_engine.proofs.methods.lock.info.last_scope.Given as goal

abbrev pub invariant-loop-part : goal.invariant-loop-part
invariant-loop-part l = last_or l.last (filter_map scope_of (elements_left l.part-iterator)) ≡ last_scope (child_elements l.element)
