use Rattle.std.specs.Option.{option_copied}
use Rattle.std.proofs.lemmas.Result.{err_from_is_err_and}
use Rattle.dav_engine.specs.Conditions as spec
use Rattle.dav_engine.specs.ConditionView.{conditions_of}
use Rattle.dav_engine.proofs.Following.{follows_up_to}
use Rattle.dav_engine.proofs.VerdictLemmas.{status_first, no_status_first, tokens_stopped, tokens_failed, tokens_held, tokens_uncopied}
use Rattle.dav_engine.proofs.ModelLemmas.{follows_for}
use Rattle.dav_engine.proofs.conditions.Conditions.if_match_get_tokens.Goals as goal

pub returns-in_err-status : goal.returns-in_err-status
returns-in_err-status g c =
    let p = err_from_is_err_and c.from_residual.result c.from_residual.ensures.1 in
    rw p.1 follows_up_to

pub returns-in-Some : goal.returns-in-Some
returns-in-Some g c =
    follows_for (λ says. spec.if_match_get_tokens c.args.method says (option_copied c.args.found)) c.self.view_is (status_first c.args.method (conditions_of c.self.inside) (option_copied c.args.found) c.in_ok-status.status c.in-Some.status c.in_ok-status.ensures c.in-Some.is)

pub returns-in_err-if_holds : goal.returns-in_err-if_holds
returns-in_err-if_holds g c =
    let p = err_from_is_err_and c.from_residual-in_err-if_holds.result c.from_residual-in_err-if_holds.ensures.1 in
    rw p.1 (follows_for (λ says. spec.if_match_get_tokens c.args.method says (option_copied c.args.found)) c.self.view_is (no_status_first c.args.method (conditions_of c.self.inside) (option_copied c.args.found) c.in_ok-status.status c.in_ok-status.ensures c.in_default.is
    (tokens_stopped (conditions_of c.self.inside) c.in_err-if_holds.ensures)))

pub returns-then-not-branch : goal.returns-then-not-branch
returns-then-not-branch g c =
    follows_for (λ says. spec.if_match_get_tokens c.args.method says (option_copied c.args.found)) c.self.view_is (no_status_first c.args.method (conditions_of c.self.inside) (option_copied c.args.found) c.in_ok-status.status c.in_ok-status.ensures c.in_default.is
    (tokens_failed (conditions_of c.self.inside) c.in_ok-if_holds.field-0 c.if-not-branch.true c.in_ok-if_holds.ensures))

pub returns-in_err-submitted : goal.returns-in_err-submitted
returns-in_err-submitted g c =
    let p = err_from_is_err_and c.from_residual-in_err-submitted.result c.from_residual-in_err-submitted.ensures.1 in
    rw p.1 (follows_for (λ says. spec.if_match_get_tokens c.args.method says (option_copied c.args.found)) c.self.view_is (no_status_first c.args.method (conditions_of c.self.inside) (option_copied c.args.found) c.in_ok-status.status c.in_ok-status.ensures c.in_default.is
    (tokens_uncopied (conditions_of c.self.inside) c.in_ok-if_holds.field-0 c.in_ok-if_holds.ensures)))

pub returns : goal.returns
returns g c =
    follows_for (λ says. spec.if_match_get_tokens c.args.method says (option_copied c.args.found)) c.self.view_is (no_status_first c.args.method (conditions_of c.self.inside) (option_copied c.args.found) c.in_ok-status.status c.in_ok-status.ensures c.in_default.is
    (tokens_held (conditions_of c.self.inside) c.in_ok-if_holds.field-0 c.in_ok-submitted.field-0 c.if-not-branch.false c.in_ok-submitted.ensures c.in_ok-if_holds.ensures))
