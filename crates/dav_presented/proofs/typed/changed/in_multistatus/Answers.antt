use Rattle.std.proofs.Common.{◌∙◌, sym}
use Rattle.dav_presented.proofs.TypedLemmas.{child_typed}
use Rattle.dav_presented.proofs.typed.changed.in_multistatus.Goals as goal

pub returns-in_ok-typed-in-Element : goal.returns-in_ok-typed-in-Element
returns-in_ok-typed-in-Element c =
    rw c.in-Element.is (child_typed c.in-Element.element c.in_ok-typed-in-Element.field-0 (sym c.is_dav.ensures ∙ c.if-is_dav.true) c.in_ok-typed-in-Element.ensures)
