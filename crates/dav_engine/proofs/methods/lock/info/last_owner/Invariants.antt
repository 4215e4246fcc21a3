use Rattle.std.proofs.Common.{◌≡◌}
use Rattle.std.specs.List.{filter, last_or}
use Rattle.std.specs.Option.{option_copied}
use Rattle.dav_core.specs.ChildElements.{elements_left}
use Rattle.dav_core.specs.Element.{child_elements}
use Rattle.dav_engine.specs.LockInfo.{is_owner, last_owner}
use Rattle.dav_engine.proofs.methods.lock.info.last_owner.Given as goal

abbrev pub invariant-loop-part : goal.invariant-loop-part
invariant-loop-part l = last_or (option_copied l.owner) (filter is_owner (elements_left l.part-iterator)) ≡ last_owner (child_elements l.element)
