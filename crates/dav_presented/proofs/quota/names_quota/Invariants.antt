use Rattle.std.proofs.Common.{◌≡◌, ◌||◌, codes}
use Rattle.std.specs.List.{list_any}
use Rattle.dav_core.specs.ChildElements.{elements_left}
use Rattle.dav_core.specs.Element.{child_elements}
use Rattle.dav_presented.specs.Names.{is_dav}
use Rattle.dav_presented.proofs.quota.names_quota.Given as goal

abbrev pub invariant-loop-child : goal.invariant-loop-child
invariant-loop-child l = list_any (λ e. is_dav (codes "quota-available-bytes") e || is_dav (codes "quota-used-bytes") e) (elements_left l.child-iterator) ≡ list_any (λ e. is_dav (codes "quota-available-bytes") e || is_dav (codes "quota-used-bytes") e) (child_elements l.prop)
