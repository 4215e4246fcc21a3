use Rattle.std.proofs.Common.{◌≡◌, ◌||◌, codes}
use Rattle.std.specs.List.{list_any}
use Rattle.dav_core.specs.ChildElements.{elements_left}
use Rattle.dav_core.specs.Element.{child_elements}
use Rattle.dav_presented.specs.Quota.{is_found}
use Rattle.dav_presented.proofs.quota.has_found.Given as goal

abbrev pub invariant-loop-child : goal.invariant-loop-child
invariant-loop-child l = list_any is_found (elements_left l.child-iterator) ≡ list_any is_found (child_elements l.response)
