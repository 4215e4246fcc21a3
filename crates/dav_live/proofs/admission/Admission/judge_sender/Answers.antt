use Rattle.std.proofs.Common.{codes, string_bytes, subst, sym}
use Rattle.dav_access.specs.Principals.{IsRefusal, ShowsNoUser}
use Rattle.dav_live.specs.Admission.{AdmissionView, users_for}
use Rattle.dav_live.specs.Hosts.{value_of}
use Rattle.dav_live.specs.Verdicts.{IsSenderAsked}
use Rattle.dav_live.proofs.VerdictLemmas.{rejected_unknown}
use Rattle.dav_live.proofs.admission.Admission.judge_sender.Goals as goal

pub judge_leave-requires-clause-asked : goal.judge_leave-requires-clause-asked
judge_leave-requires-clause-asked c = subst (λ (a : AdmissionView). IsSenderAsked a c.args.head.now) (sym c.principal_of.ensures.same) c.requires

pub returns-in-Err-Unknown-clause-rejected : goal.returns-in-Err-Unknown-clause-rejected
returns-in-Err-Unknown-clause-rejected c =
    let a = c.args.self.now in
    let shows : ShowsNoUser (users_for a c.args.head.now) (value_of (codes "authorization") c.args.head.now) (string_bytes c.in-Err-Unknown.shown) =
    subst (IsRefusal (users_for a c.args.head.now) (value_of (codes "authorization") c.args.head.now)) c.in-Err-Unknown.field-0-is c.in-Err-Unknown.ensures.refusal in
    rejected_unknown a c.args.head.now c.rejected_for.result c.in-Err-Unknown.shown c.rejected_for.ensures c.requires shows
