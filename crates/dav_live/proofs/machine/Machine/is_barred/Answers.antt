use Rattle.std.proofs.Common.{◌∙◌, Option, ap, not, subst, sym}
use Rattle.std.specs.Bool.{Decides}
use Rattle.std.specs.Option.{option_copied}
use Rattle.dav_access.specs.Rules.{Rules}
use Rattle.dav_live.specs.Answers.{IsBarred}
use Rattle.dav_live.proofs.MachineLemmas.{barred_unless}
use Rattle.dav_live.proofs.machine.Machine.is_barred.Goals as goal

pub returns : goal.returns
returns c =
    subst (λ (o : Option Rules). Decides (not c.in_ok-may_unlock.field-0) (IsBarred o c.args.self.now c.args.head.now c.args.request.now)) (sym (ap option_copied c.in-Some.is))
    (barred_unless c.in-Some.rules.now c.args.self.now c.args.request.now c.args.head.now c.in_ok-may_unlock.field-0
    (sym c.method.ensures ∙ c.is_unlock.ensures.0 c.if-not-is_unlock.false) c.in_ok-may_unlock.ensures)
