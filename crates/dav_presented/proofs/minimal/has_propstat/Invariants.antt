use Rattle.std.proofs.Common.{◌≡◌, ◌||◌, codes}
use Rattle.std.specs.List.{list_any}
use Rattle.dav_core.specs.ChildElements.{elements_left}
use Rattle.dav_core.specs.Element.{child_elements}
use Rattle.dav_presented.specs.Names.{is_dav}
use Rattle.dav_presented.proofs.minimal.has_propstat.Given as goal

abbrev pub invariant-loop-child : goal.invariant-loop-child
invariant-loop-child l = list_any (is_dav (codes "propstat")) (elements_left l.child-iterator) ≡ list_any (is_dav (codes "propstat")) (child_elements l.response)
