use Rattle.std.proofs.Common.{◌∙◌, [], refl, sym}
use Rattle.dav_server.specs.Run.{no_more}
use Rattle.dav_server.proofs.RunLemmas.{run_added, steps_at, stops_at, ran_to, ran_for, rest_after_one, turns_of}
use Rattle.dav_server.proofs.HeadlineLemmas.{from_an_empty_server}
use Rattle.dav_server.proofs.IsolationLemmas.{none_loaded, loaded_more, loaded_for}
use Rattle.dav_server.proofs.PromiseLemmas.{runs_promise}
use Rattle.dav_server.proofs.TurnLemmas.{all_yielded, none_showable, showable_more, showable_for}
use Rattle.dav_server.proofs.run.run_refused.Goals as goal

pub loop-step-init : goal.loop-step-init
loop-step-init c = (refl, ran_to [] _ c.new-replies.ensures.items no_more, none_showable, sym c.into_iter-step-iterator.ensures.into_iter_gives.0, none_loaded)

pub loop-step-preserved : goal.loop-step-preserved
loop-step-preserved c =
    let added = c.in-Ok.ensures.ok in (
      c.in-Ok.ensures.same ∙ c.loop-step.invariant.0,
      run_added c.loop-step.replies.items c.answer_turn.new.replies.items c.in-Some.step added.0 c.loop-step.invariant.1 added.1 (steps_at c.loop-step.invariant.0 added.2),
      showable_more c.loop-step.yielded c.in-Some.step c.loop-step.invariant.2 c.in-Ok.ensures.moment,
      rest_after_one _ _ _ _ _ c.loop-step.invariant.3 c.in-Some.ensures.steps.0,
      loaded_more c.loop-step.yielded c.in-Some.step c.loop-step.invariant.4 c.in-Ok.ensures.loaded,
    )

pub returns-in-Err-clause-fault : goal.returns-in-Err-clause-fault
returns-in-Err-clause-fault c = record {
  front = c.loop-step.yielded;
  turn = c.in-Some.step;
  back = c.next.new.self.rest.items;
  was = c.loop-step.handler.server.state;
  turns_are = turns_of _ _ _ _ _ c.loop-step.invariant.3 c.in-Some.ensures.steps.0;
  earlier = ran_to c.loop-step.replies.items c.answer_turn.new.replies.items c.in-Err.ensures.replies c.loop-step.invariant.1;
  stopped = stops_at _ c.in-Some.step c.loop-step.handler.server _ c.loop-step.invariant.0 c.in-Err.ensures.cut;
}

pub returns-clause-promises : goal.returns-clause-promises
returns-clause-promises c =
    let rest = c.loop-step.step-iterator.rest in
    let whole = all_yielded c.args.steps.items c.loop-step.yielded rest.items rest.len c.loop-step.invariant.3 rest.ok.0 c.in-None.ensures.steps.0 in
    runs_promise _ c.loop-step.handler.server c.args.steps.items _ (showable_for whole c.loop-step.invariant.2) (ran_for whole c.loop-step.invariant.1)

pub returns-clause-loaded : goal.returns-clause-loaded
returns-clause-loaded c =
    let rest = c.loop-step.step-iterator.rest in
    let whole = all_yielded c.args.steps.items c.loop-step.yielded rest.items rest.len c.loop-step.invariant.3 rest.ok.0 c.in-None.ensures.steps.0 in
    loaded_for whole c.loop-step.invariant.4

pub returns-clause-headline : goal.returns-clause-headline
returns-clause-headline c =
    let rest = c.loop-step.step-iterator.rest in
    let whole = all_yielded c.args.steps.items c.loop-step.yielded rest.items rest.len c.loop-step.invariant.3 rest.ok.0 c.in-None.ensures.steps.0 in
    from_an_empty_server _ c.args.steps.items _ _ (showable_for whole c.loop-step.invariant.2) (loaded_for whole c.loop-step.invariant.4) (ran_for whole c.loop-step.invariant.1)
