use Rattle.std.proofs.Common.{◌≡◌}
use Rattle.std.specs.List.{list_any}
use Rattle.dav_core.specs.ChildElements.{elements_left}
use Rattle.dav_core.specs.Element.{ElementTree, child_elements}
use Rattle.dav_presented.specs.Missing.{named_after, named_once}
use Rattle.dav_presented.specs.Names.{is_same}
use Rattle.dav_presented.specs.NameSets.{has}
use Rattle.dav_presented.proofs.missing.named_once.Given as goal

-- what is left gives all, and the names so far are in the set
abbrev pub invariant-loop-property : goal.invariant-loop-property
invariant-loop-property l =
    (named_after l.once.items (elements_left l.property-iterator) ≡ named_once (child_elements l.prop)) × ((e : ElementTree) → has e l.seen ≡ list_any (λ f. is_same e f) l.once.items)
