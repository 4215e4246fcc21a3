use Rattle.std.proofs.Common.{◌≡◌, ◌&&◌, codes}
use Rattle.std.specs.List.{list_any}
use Rattle.dav_core.specs.ChildElements.{elements_left}
use Rattle.dav_presented.specs.Names.{is_dav}
use Rattle.dav_presented.specs.Missing.{is_in_propstat, is_told}
use Rattle.dav_presented.proofs.missing.is_told.Given as goal

abbrev pub invariant-loop-child : goal.invariant-loop-child
invariant-loop-child l = list_any (λ c. is_dav (codes "propstat") c && is_in_propstat l.property c) (elements_left l.child-iterator) ≡ is_told l.property l.response
