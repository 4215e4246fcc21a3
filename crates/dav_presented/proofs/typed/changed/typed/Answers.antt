use Rattle.std.proofs.Common.{◌≡◌, ◌∙◌, ap, subst, IfOk}
use Rattle.dav_presented.specs.Typed.{type_at, type_in, typed_by}
use Rattle.dav_presented.specs.declared.times.Telling.TheVariants.{Found}
use Rattle.dav_presented.proofs.typed.changed.typed.Goals as goal

pub returns : goal.returns
returns c =
    subst (λ times. IfOk c.response.result (λ e. e ≡ typed_by (type_in c.args.told) (Found times) c.args.told)) c.in_ok-times.ensures.is
    (subst (λ kind. IfOk c.response.result (λ e. e ≡ typed_by kind (Found c.in_ok-times.times) c.args.told)) (c.in_ok-kind.ensures ∙ ap type_at c.href.ensures) c.response.ensures)
