use Rattle.std.specs.Option.{option_copied}
use Rattle.dav_live.specs.Admission.{HasLeaveIn, LooksIn}
use Rattle.dav_live.proofs.AdmissionLemmas.{asks_by}
use Rattle.dav_live.proofs.admission.Admission.may_ask.Goals as goal

pub returns : goal.returns
returns c =
    let a = c.args.self.now in
    let who = option_copied c.args.user in
    asks_by (HasLeaveIn a who c.args.kept.now) (LooksIn a who c.args.kept.now) c.in_ok-has_leave.field-0 c.may_look.result c.if-branch.false c.in_ok-has_leave.ensures c.may_look.ensures
