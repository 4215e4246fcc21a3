use Rattle.std.proofs.Common.{◌≡◌, ◌+◌, ◌≤◌, length}
use Rattle.dav_core.specs.ChildElements.{elements_left}
use Rattle.dav_core.specs.Element.{child_elements}
use Rattle.dav_presented.proofs.missing.names_many.Given as goal

abbrev pub invariant-loop-child : goal.invariant-loop-child
invariant-loop-child l = (l.seen + length (elements_left l._child-iterator) ≡ length (child_elements l.prop)) × (l.seen ≤ 1000)
