use Rattle.std.proofs.Common.{◌≡◌, length}
use Rattle.dav_core.specs.ChildElements.{elements_left}
use Rattle.dav_core.proofs.element.ChildElemsIterator.next.Given as goal

abbrev pub invariant-loop-first : goal.invariant-loop-first
invariant-loop-first l = elements_left l.self ≡ elements_left l.fn.self

abbrev pub decreases-loop-first : goal.decreases-loop-first
decreases-loop-first l = length l.self.rest.now
