use Rattle.std.proofs.Common.{◌≡◌, ◌++◌, ◌∷◌, [], Some, None, map, refl, ap, ◌∙◌, subst, inl, inr}
use Rattle.dav_wire.specs.declared.state.Reason.TheVariants.{Rejected}
use Rattle.dav_wire.specs.Exchange.{Judgement}
use Rattle.dav_wire.specs.History.{History}
use Rattle.dav_wire.specs.Place.{place, history_of, closed_with}
use Rattle.dav_wire.specs.Refusals.{closing_text, known_status, rejection_status}
use Rattle.dav_wire.proofs.Heads.{known_rejection, in_log, logged, judge_stops, stops_judged, head_rejected, head_passes, after_judging, invited_acts}
use Rattle.dav_wire.proofs.Runs.{reaches_over, holds_open}
use Rattle.dav_wire.proofs.Streams.{acts_judged}
use Rattle.dav_wire.proofs.line.Line.judge.Goals as goal

pub returns-in-Err-clause-reaches : goal.returns-in-Err-clause-reaches
returns-in-Err-clause-reaches g c = λ old less x.
    let l = c.args.self.now in
    reaches_over _ old _ _ _ c.abort.ensures.written c.abort.ensures.keeps.config (λ is. cc) c.abort.ensures.stops
    (judge_stops (place l.intake) (history_of l) c.args.waits x)

pub returns-in-Some-clause-reaches : goal.returns-in-Some-clause-reaches
returns-in-Some-clause-reaches g c = λ old less x.
    let l = c.args.self.now in
    let h = history_of l in
    let p = place l.intake in
    let js = (history_of (record l { judgements = c.and-self.result })).judgements in
    let is : js ≡ h.judgements ++ (l.intake.head.items, Some c.in-Some.why) ∷ [] =
    logged l c.and-self.result.items c.in-Ok.verdict c.and-self.ensures
    ∙ ap (λ v. h.judgements ++ (l.intake.head.items, v) ∷ []) c.in-Some.is in
    let status : known_status c.status.result ≡ rejection_status c.in-Some.why =
    ap known_status c.status.ensures ∙ known_rejection c.in-Some.why in
    let last : History = closed_with (Rejected c.in-Some.why) (closing_text l.intake.is_head (rejection_status c.in-Some.why)) (record h { judgements = js }) in
    elim c.end.ensures.written [
      | inl written ↦
          reaches_over _ old _ p.config last
          (written ∙ ap (λ n. closed_with (Rejected c.in-Some.why) (closing_text l.intake.is_head n) (record h { judgements = js })) status)
          c.end.ensures.keeps.config (λ is. cc) c.end.ensures.stops
          (head_rejected p h c.args.waits x c.in-Some.why js is)
      | inr written ↦
          reaches_over _ old _ _ _ written c.end.ensures.keeps.config (λ is. cc) c.end.ensures.stops
          (stops_judged p h c.args.waits x (Some c.in-Some.why) js is)
    ]

pub returns-in-Some-clause-acts : goal.returns-in-Some-clause-acts
returns-in-Some-clause-acts g c = λ alive.
    let l = c.args.self.now in
    let judgement : Judgement = (l.intake.head.items, c.in-Ok.verdict) in
    acts_judged g.S.Answerer.judges g.S.Answerer.answers _ _ (history_of l) (history_of c.end.new.self) judgement
    (ap (λ t. t.items) c.end.ensures.acts.0)
    (ap (λ t. map in_log t.items) c.end.ensures.acts.1 ∙ logged l c.and-self.result.items c.in-Ok.verdict c.and-self.ensures)
    (subst (λ t. g.S.Answerer.judges c.args.answerer.now t c.in-Ok.verdict c.judge.new.self) c.as_slice.ensures c.in-Ok.ensures)

pub returns-in-None-clause-reaches : goal.returns-in-None-clause-reaches
returns-in-None-clause-reaches g c = λ old less x.
    let l = c.args.self.now in
    let js = (history_of (record l { judgements = c.and-self.result })).judgements in
    let is : js ≡ (history_of l).judgements ++ (l.intake.head.items, None) ∷ [] =
    logged l c.and-self.result.items c.in-Ok.verdict c.and-self.ensures
    ∙ ap (λ v. (history_of l).judgements ++ (l.intake.head.items, v) ∷ []) c.in-None.is in
    after_judging l c.args.waits x js is c.if-waits.true c.invite.new.self old c.invite.result c.invite.ensures.written
    c.invite.ensures.intake less

pub returns-in-None-clause-acts : goal.returns-in-None-clause-acts
returns-in-None-clause-acts g c = λ alive.
    let l = c.args.self.now in
    let judgement : Judgement = (l.intake.head.items, c.in-Ok.verdict) in
    let kept = invited_acts (history_of c.invite.new.self) (history_of (record l { judgements = c.and-self.result })) c.invite.result
    c.invite.ensures.written in
    acts_judged g.S.Answerer.judges g.S.Answerer.answers _ _ (history_of l) (history_of c.invite.new.self) judgement kept.0
    (kept.1 ∙ logged l c.and-self.result.items c.in-Ok.verdict c.and-self.ensures)
    (subst (λ t. g.S.Answerer.judges c.args.answerer.now t c.in-Ok.verdict c.judge.new.self) c.as_slice.ensures c.in-Ok.ensures)

pub returns-in-None-2-clause-reaches : goal.returns-in-None-2-clause-reaches
returns-in-None-2-clause-reaches g c = λ old less x.
    let l = c.args.self.now in
    let js = (history_of (record l { judgements = c.and-self.result })).judgements in
    let is : js ≡ (history_of l).judgements ++ (l.intake.head.items, None) ∷ [] =
    logged l c.and-self.result.items c.in-Ok.verdict c.and-self.ensures
    ∙ ap (λ v. (history_of l).judgements ++ (l.intake.head.items, v) ∷ []) c.in-None.is in
    record {
      holds = holds_open _ _ (head_passes (place l.intake) (history_of l) c.args.waits x js is c.if-waits.false);
      less = λ _. less;
      rests = λ wrong. cc;
    }

pub returns-in-None-2-clause-acts : goal.returns-in-None-2-clause-acts
returns-in-None-2-clause-acts g c = λ alive.
    let l = c.args.self.now in
    let judgement : Judgement = (l.intake.head.items, c.in-Ok.verdict) in
    acts_judged g.S.Answerer.judges g.S.Answerer.answers _ _ (history_of l) (history_of (record l { judgements = c.and-self.result }))
    judgement refl (logged l c.and-self.result.items c.in-Ok.verdict c.and-self.ensures)
    (subst (λ t. g.S.Answerer.judges c.args.answerer.now t c.in-Ok.verdict c.judge.new.self) c.as_slice.ensures c.in-Ok.ensures)
