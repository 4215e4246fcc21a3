use Rattle.std.proofs.Common.{◌≡◌, ◌||◌, codes}
use Rattle.std.specs.List.{list_any}
use Rattle.dav_core.specs.ChildElements.{elements_left}
use Rattle.dav_core.specs.Element.{child_elements}
use Rattle.dav_presented.specs.Quota.{says_ok}
use Rattle.dav_presented.proofs.quota.is_found.Given as goal

abbrev pub invariant-loop-child : goal.invariant-loop-child
invariant-loop-child l = list_any says_ok (elements_left l.child-iterator) ≡ list_any says_ok (child_elements l.element)
