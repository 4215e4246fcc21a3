use Rattle.std.proofs.Common.{◌≡◌, ◌&&◌, ◌||◌, codes}
use Rattle.std.specs.List.{list_any}
use Rattle.dav_core.specs.ChildElements.{elements_left}
use Rattle.dav_core.specs.Element.{ElementTree}
use Rattle.dav_presented.specs.Missing.{is_in_prop, is_in_propstat}
use Rattle.dav_presented.specs.Names.{is_dav}
use Rattle.dav_presented.specs.NameSets.{has}
use Rattle.dav_presented.proofs.missing.add_propstat.Given as goal

-- the names so far and those that are left are all
abbrev pub invariant-loop-child : goal.invariant-loop-child
invariant-loop-child l =
    (e : ElementTree) → (has e l.names || list_any (λ c. is_dav (codes "prop") c && is_in_prop e c) (elements_left l.child-iterator)) ≡ (has e l.fn.names || is_in_propstat e l.propstat)
