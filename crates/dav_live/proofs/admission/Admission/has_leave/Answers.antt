use Rattle.std.proofs.Common.{◌≡◌, ◌∙◌, Some, ap, sym}
use Rattle.std.specs.Option.{option_copied}
use Rattle.dav_live.specs.Admission.{AdmissionView}
use Rattle.dav_live.proofs.AdmissionLemmas.{leave_by}
use Rattle.dav_live.proofs.admission.Admission.has_leave.Goals as goal

pub returns-in_ok-has_leave-in-Some : goal.returns-in_ok-has_leave-in-Some
returns-in_ok-has_leave-in-Some c =
    let prefix : c.as_str-prefix.result.now ≡ c.args.self.now.prefix = c.as_str-prefix.ensures.value ∙ ap (λ (a : AdmissionView). a.prefix) c.self.view_is in
    let some : c.args.self.now.rules ≡ Some c.in-Some.rules = sym (ap (λ (a : AdmissionView). a.rules) c.self.view_is) ∙ c.in-Some.is in
    leave_by c.args.self.now c.in-Some.rules (option_copied c.args.user) c.args.kept.now c.in_ok-has_leave-in-Some.field-0 some
    (λ s x at is who. c.in_ok-has_leave-in-Some.ensures s x (at ∙ sym prefix) is who)
