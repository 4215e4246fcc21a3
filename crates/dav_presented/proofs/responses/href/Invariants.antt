use Rattle.std.proofs.Common.{◌≡◌, codes}
use Rattle.std.specs.List.{find}
use Rattle.dav_core.specs.ChildElements.{elements_left}
use Rattle.dav_core.specs.Element.{child_elements}
use Rattle.dav_presented.specs.Names.{is_dav}
use Rattle.dav_presented.proofs.responses.href.Given as goal

abbrev pub invariant-loop-child : goal.invariant-loop-child
invariant-loop-child l = find (is_dav (codes "href")) (elements_left l.child-iterator) ≡ find (is_dav (codes "href")) (child_elements l.response)
