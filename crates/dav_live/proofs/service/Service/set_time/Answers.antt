use Rattle.std.proofs.Common.{◌≡◌, ◌∙◌, List, None, Option, refl, rules, subst, sym, true≢false, ℕ}
use Rattle.std.specs.Option.{option_copied}
use Rattle.dav_kept.specs.Records.{RequestView}
use Rattle.dav_live.specs.Admission.{HasLeaveIn}
use Rattle.dav_live.specs.Serving.{IsRun, admission_of, belonging_to, held_of, kept_of}
use Rattle.dav_live.proofs.RunLemmas.{goes_on_same}
use Rattle.dav_live.proofs.ServingLemmas.{TellsRequest, left_time, on_ok, told_time, untold_time}
use Rattle.dav_live.proofs.service.Service.set_time.Goals as goal

pub returns-in_default-clause-goes_on : goal.returns-in_default-clause-goes_on
returns-in_default-clause-goes_on g c = goes_on_same g.H.Handles.answers g.J.Keeps.is_clean g.J.Keeps.kept (kept_of c.args.self.now) c.args.self.now.kept refl

pub returns-then-not-branch-clause-goes_on : goal.returns-then-not-branch-clause-goes_on
returns-then-not-branch-clause-goes_on g c = goes_on_same g.H.Handles.answers g.J.Keeps.is_clean g.J.Keeps.kept (kept_of c.args.self.now) c.args.self.now.kept refl

pub returns-in_default-clause-timed : goal.returns-in_default-clause-timed
returns-in_default-clause-timed g c =
    let head : c.request.inside.head.now ≡ c.args.request.now.head = search rules in
    untold_time g.H.Handles.answers (admission_of c.args.self.now) (held_of c.args.self.now) c.args.request.now c.args.response.now c.as_u16.result c.in_ok-set.field-0 c.as_u16.ensures.value (subst (λ (h : List ℕ). TellsRequest h c.as_u16.result c.in_ok-set.field-0) head c.in_ok-set.ensures)
    c.in_default.is

pub returns-then-not-branch-clause-timed : goal.returns-then-not-branch-clause-timed
returns-then-not-branch-clause-timed g c =
    let head : c.request.inside.head.now ≡ c.args.request.now.head = search rules in
    let who : option_copied c.request.inside.principal ≡ c.args.request.now.principal = search rules in
    left_time g.H.Handles.answers (admission_of c.args.self.now) (held_of c.args.self.now) c.args.request.now c.args.response.now c.as_u16.result c.in_ok-set.field-0 c.as_u16.ensures.value (subst (λ (h : List ℕ). TellsRequest h c.as_u16.result c.in_ok-set.field-0) head c.in_ok-set.ensures)
    c.in-Some.set c.in-Some.is
    (λ leave. true≢false (
    sym (c.in_ok-has_leave.ensures.1
    (subst (λ (p : Option (List ℕ)). HasLeaveIn (admission_of c.args.self.now) p c.deref.result.now) (sym who)
    (subst (HasLeaveIn (admission_of c.args.self.now) c.args.request.now.principal) (sym c.deref.ensures.value) leave)))
    ∙ c.if-not-branch.true))

pub returns-clause-timed : goal.returns-clause-timed
returns-clause-timed g c =
    let head : c.request.inside.head.now ≡ c.args.request.now.head = search rules in
    let who : option_copied c.request.inside.principal ≡ c.args.request.now.principal = search rules in
    let request : record { moment = c.request.inside.moment; principal = option_copied c.as_deref.result; token = None; head = c.in-Some.set.head.items; body = c.in-Some.set.body }
    ≡ belonging_to c.args.request.now c.in-Some.set.head.items c.in-Some.set.body = search rules in
    let leave = subst (HasLeaveIn (admission_of c.args.self.now) c.args.request.now.principal) c.deref.ensures.value
    (subst (λ (p : Option (List ℕ)). HasLeaveIn (admission_of c.args.self.now) p c.deref.result.now) who (c.in_ok-has_leave.ensures.0 c.if-not-branch.false)) in
    on_ok c.set_time_by.result
    (λ set.
    told_time g.H.Handles.answers (admission_of c.args.self.now) (held_of c.args.self.now) c.args.request.now c.args.response.now c.as_u16.result c.in_ok-set.field-0 c.as_u16.ensures.value (subst (λ (h : List ℕ). TellsRequest h c.as_u16.result c.in_ok-set.field-0) head c.in_ok-set.ensures)
    c.in-Some.set c.in-Some.is (held_of c.set_time_by.new.self) c.set_time_by.new.response leave
    (set.0, subst (λ (q : RequestView). IsRun g.H.Handles.answers (held_of c.args.self.now) q set.0 (held_of c.set_time_by.new.self)) request set.1, set.2))
    c.set_time_by.ensures.set
