use Rattle.std.proofs.Common.{◌≡◌, ◌∙◌, ap, sym}
use Rattle.dav_confined.specs.Sight.{may_look}
use Rattle.dav_confined.proofs.LeaveLemmas.{by_looks, looks_by}
use Rattle.dav_confined.proofs.leave.Asked.may_look.Goals as goal

pub returns : goal.returns
returns c s x who asked =
    let rules = c.args.rules.now in
    let a = c.args.self.now in
    let is : c.is_look.result ≡ may_look rules x.principal a = c.is_look.ensures ∙ ap (λ w. may_look rules w a) (sym who) in (
      λ yes. looks_by rules s x a asked (sym is ∙ yes),
      λ look. is ∙ by_looks rules s x a asked look,
    )
