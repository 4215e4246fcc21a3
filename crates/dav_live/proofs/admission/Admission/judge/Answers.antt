use Rattle.std.proofs.Common.{◌≡◌, ◌∙◌, ap, map, string_bytes, sym, true≢false}
use Rattle.dav_live.specs.Admission.{AdmissionView}
use Rattle.dav_live.proofs.VerdictLemmas.{rejected_untaken, takeable_by, untaken_by}
use Rattle.dav_live.proofs.admission.Admission.judge.Goals as goal

pub returns-in-Some-clause-rejected : goal.returns-in-Some-clause-rejected
returns-in-Some-clause-rejected c =
    let a = c.args.self.now in
    let hosts : a.hosts ≡ map string_bytes c.deref.result.now =
    sym (ap (λ (v : AdmissionView). v.hosts) c.self.view_is) ∙ ap (map string_bytes) (sym c.deref.ensures.value) in
    rejected_untaken a c.args.head.now c.rejected_for.result c.in-Some.why _ c.rejected_for.ensures c.new.ensures.bytes
    (untaken_by (map string_bytes c.deref.result.now) a c.args.head.now c.rejection_of.result c.in-Some.why hosts c.in-Some.is c.rejection_of.ensures)

pub judge_sender-requires : goal.judge_sender-requires
judge_sender-requires c =
    let a = c.args.self.now in
    let hosts : a.hosts ≡ map string_bytes c.deref.result.now =
    sym (ap (λ (v : AdmissionView). v.hosts) c.self.view_is) ∙ ap (map string_bytes) (sym c.deref.ensures.value) in
    let takeable = takeable_by (map string_bytes c.deref.result.now) a c.args.head.now c.rejection_of.result hosts c.in-None.is c.rejection_of.ensures in
    (takeable, c.may_be_long.ensures.0 c.if-may_be_long.true)

pub returns-in-None-2-clause-rejected : goal.returns-in-None-2-clause-rejected
returns-in-None-2-clause-rejected c =
    let a = c.args.self.now in
    let hosts : a.hosts ≡ map string_bytes c.deref.result.now =
    sym (ap (λ (v : AdmissionView). v.hosts) c.self.view_is) ∙ ap (map string_bytes) (sym c.deref.ensures.value) in
    let takeable = takeable_by (map string_bytes c.deref.result.now) a c.args.head.now c.rejection_of.result hosts c.in-None-2.is c.rejection_of.ensures in
    record {
      takeable = takeable;
      sender = λ long. absurd (true≢false (sym (c.may_be_long.ensures.1 long) ∙ c.if-may_be_long.false));
    }
