use Rattle.std.proofs.Common.{◌∙◌, sym}
use Rattle.dav_presented.proofs.TypedLemmas.{child_set}
use Rattle.dav_presented.proofs.typed.changed.in_outcomes.Goals as goal

pub returns-in_ok-told-in-Element : goal.returns-in_ok-told-in-Element
returns-in_ok-told-in-Element c =
    rw c.in-Element.is (child_set c.in-Element.element c.in_ok-told-in-Element.told (sym c.is_dav.ensures ∙ c.if-is_dav.true) c.in_ok-told-in-Element.ensures)
