use Rattle.std.proofs.Common.{◌≡◌, ◌∙◌, ◌++◌, ◌∷◌, List, [], Err, refl, sym, ap, subst}
use Rattle.std.proofs.lemmas.Result.{err_from_is_err_and}
use Rattle.dav_server.specs.Run.{Turn, no_more}
use Rattle.dav_server.specs.Server.{AnswersAll}
use Rattle.dav_server.proofs.Theorems.{rest_after_one}
use Rattle.dav_run.specs.Play.{RunsSome}
use Rattle.dav_run.proofs.Played.{appends_nothing, joined, some_joined, more_written, same_error}
use Rattle.dav_run.proofs.play.play_turns.Goals as goal

pub loop-step-init : goal.loop-step-init
loop-step-init g c = (refl, ([], no_more, appends_nothing (g.W.Write.contents c.args.writer.now)), sym c.into_iter-step-iterator.ensures.into_iter_gives.0)

pub loop-step-preserved : goal.loop-step-preserved
loop-step-preserved g c =
    let (replies, ran, wrote) = c.loop-step.invariant.1 in
    let (more, ran_more, wrote_more) = c.in_ok-play_together.ensures.played in
    let one : c.push.new.self.items ≡ c.in-Some.step ∷ [] = c.in_ok-push.ensures.items ∙ ap (λ (l : List Turn). l ++ c.in-Some.step ∷ []) c.new-one.ensures.items in
    let next = subst (λ (l : List Turn). AnswersAll c.loop-step.handler.server l more c.play_together.new.handler.server) one ran_more in (
      c.in_ok-play_together.ensures.same ∙ c.loop-step.invariant.0,
      (
        replies ++ more,
        joined c.play_together.new.handler.server c.loop-step.invariant.0 ran next,
        more_written (g.W.Write.contents c.args.writer.now) (g.W.Write.contents c.loop-step.writer) (g.W.Write.contents c.play_together.new.writer) replies more wrote wrote_more,
      ),
      rest_after_one _ _ _ _ _ c.loop-step.invariant.2 c.in-Some.ensures.steps.0,
    )

pub returns-in_err-play_together-clause-short : goal.returns-in_err-play_together-clause-short
returns-in_err-play_together-clause-short g c =
    let p = err_from_is_err_and c.from_residual-in_err-play_together.result c.from_residual-in_err-play_together.ensures.1 in
    rw (p.1, p.2) (λ is.
    let (replies, ran, wrote) = c.loop-step.invariant.1 in
    let (more, ran_more, wrote_more) = c.in_err-play_together.ensures.short (ap Err (same_error is)) in
    let one : c.push.new.self.items ≡ c.in-Some.step ∷ [] = c.in_ok-push.ensures.items ∙ ap (λ (l : List Turn). l ++ c.in-Some.step ∷ []) c.new-one.ensures.items in
    let next = subst (λ (l : List Turn). RunsSome c.loop-step.handler.server l more) one ran_more in (
      replies ++ more,
      some_joined c.next.new.self.rest.items c.loop-step.invariant.0 (rest_after_one _ _ _ _ _ c.loop-step.invariant.2 c.in-Some.ensures.steps.0) ran next,
      more_written (g.W.Write.contents c.args.writer.now) (g.W.Write.contents c.loop-step.writer) (g.W.Write.contents c.play_together.new.writer) replies more wrote wrote_more,
    ))
