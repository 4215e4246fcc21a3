use Rattle.std.proofs.Common.{inl, refl, subst, sym}
use Rattle.dav_kept.specs.Records.{RequestView}
use Rattle.dav_live.specs.Admission.{request_in}
use Rattle.dav_live.specs.Answers.{IsKeptFrom}
use Rattle.dav_live.specs.Numbered.{HasNumber}
use Rattle.dav_live.specs.Serving.{admission_of, held_of, kept_of}
use Rattle.dav_live.proofs.RunLemmas.{goes_on_same}
use Rattle.dav_live.proofs.ServingLemmas.{not_refused, refused_by}
use Rattle.dav_live.proofs.service.Service.run_if_allowed.Goals as goal

pub returns-in_ok-refuse_with-in-Some-clause-goes_on : goal.returns-in_ok-refuse_with-in-Some-clause-goes_on
returns-in_ok-refuse_with-in-Some-clause-goes_on g c = goes_on_same g.H.Handles.answers g.J.Keeps.is_clean g.J.Keeps.kept (kept_of c.args.self.now) c.args.self.now.kept refl

pub returns-in-None-clause-ran : goal.returns-in-None-clause-ran
returns-in-None-clause-ran g c =
    not_refused g.H.Handles.answers g.H.Ends.refuses _ _ _ (admission_of c.args.self.now) c.handler.result.now (held_of c.args.self.now) (held_of c.run_whole.new.self) c.args.head.now c.request_in-request.result
    (request_in (admission_of c.args.self.now) c.args.admitted.now c.args.body.now) c.run_whole.new.response c.in_ok-status.field-0 c.run_whole.result c.rules.ensures c.limits.ensures c.handler.ensures
    (c.request_in-request.ensures (admission_of c.args.self.now) (sym c.moment.ensures.is)) c.in-None.is c.in_ok-status.ensures c.run_whole.ensures.run

pub run_whole-requires-clause-number : goal.run_whole-requires-clause-number
run_whole-requires-clause-number g c =
    subst (λ (v : RequestView). HasNumber c.args.self.now.kept.tokens v.token) (sym (c.request_in-request.ensures (admission_of c.args.self.now) (sym c.moment.ensures.is))) c.requires.number

pub returns-in_ok-refuse_with-in-Some-clause-ran : goal.returns-in_ok-refuse_with-in-Some-clause-ran
returns-in_ok-refuse_with-in-Some-clause-ran g c =
    inl (
      c.in-Some.status,
      refused_by g.H.Ends.refuses _ (admission_of c.args.self.now).rules _ (admission_of c.args.self.now).limits c.handler.result.now c.args.self.now.kept.handler c.args.head.now c.request_in-request.result
          (request_in (admission_of c.args.self.now) c.args.admitted.now c.args.body.now) c.in_ok-status.field-0 c.in-Some.status c.rules.ensures c.limits.ensures c.handler.ensures
          (c.request_in-request.ensures (admission_of c.args.self.now) (sym c.moment.ensures.is)) c.in-Some.is c.in_ok-status.ensures,
      c.in_ok-refuse_with-in-Some.ensures,
      refl,
    )

pub refusal-requires : goal.refusal-requires
refusal-requires g c =
    subst (λ (v : RequestView). IsKeptFrom c.args.head.now v.head) (sym (c.request_in-request.ensures (admission_of c.args.self.now) (sym c.moment.ensures.is))) c.requires.kept
