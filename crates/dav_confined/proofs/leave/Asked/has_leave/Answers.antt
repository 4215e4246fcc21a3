use Rattle.std.proofs.Common.{◌≡◌, ◌∙◌, ap, sym}
use Rattle.dav_confined.specs.Asked.{has_leave}
use Rattle.dav_confined.proofs.LeaveLemmas.{leave_of, of_leave}
use Rattle.dav_confined.proofs.leave.Asked.has_leave.Goals as goal

pub returns : goal.returns
returns c s x who asked =
    let rules = c.args.rules.now in
    let a = c.args.self.now in
    let is : c.is_granted.result ≡ has_leave rules x.principal a = c.is_granted.ensures ∙ ap (λ w. has_leave rules w a) (sym who) in (
      λ yes. leave_of rules s x a asked (sym is ∙ yes),
      λ leave. is ∙ of_leave rules s x a asked leave,
    )
