use Rattle.std.proofs.lemmas.Result.{err_from_is_err_and}
use Rattle.dav_engine.specs.Conditions.{Conditions, dav_if_match}
use Rattle.dav_engine.specs.ConditionView.{conditions_of}
use Rattle.dav_engine.proofs.VerdictLemmas.{dav_stopped, dav_uncopied, dav_answered}
use Rattle.dav_engine.proofs.ModelLemmas.{follows_for}
use Rattle.dav_engine.proofs.conditions.Conditions.dav_if_match.Goals as goal

pub returns-in_err-holds : goal.returns-in_err-holds
returns-in_err-holds g c =
    let p = err_from_is_err_and c.from_residual.result c.from_residual.ensures.1 in
    rw p.1 (follows_for (λ (says : Conditions). dav_if_match says.lists) c.self.view_is (dav_stopped (conditions_of c.self.inside).lists c.in_err-holds.ensures))

pub returns-in_err-submitted : goal.returns-in_err-submitted
returns-in_err-submitted g c =
    let p = err_from_is_err_and c.from_residual-in_err-submitted.result c.from_residual-in_err-submitted.ensures.1 in
    rw p.1 (follows_for (λ (says : Conditions). dav_if_match says.lists) c.self.view_is (dav_uncopied (conditions_of c.self.inside).lists c.in_ok-holds.holds c.in_ok-holds.ensures))

pub returns : goal.returns
returns g c =
    follows_for (λ (says : Conditions). dav_if_match says.lists) c.self.view_is
    (dav_answered (conditions_of c.self.inside).lists c.in_ok-holds.holds c.in_ok-submitted.field-0 c.in_ok-submitted.ensures c.in_ok-holds.ensures)
