use Rattle.std.specs.Option.{option_copied}
use Rattle.std.proofs.lemmas.Result.{err_from_is_err_and}
use Rattle.dav_engine.specs.Conditions as spec
use Rattle.dav_engine.specs.ConditionView.{conditions_of}
use Rattle.dav_engine.proofs.VerdictLemmas.{if_stopped, if_failed, if_held}
use Rattle.dav_engine.proofs.ModelLemmas.{follows_for}
use Rattle.dav_engine.proofs.conditions.Conditions.if_match.Goals as goal

pub returns-in_err-if_holds : goal.returns-in_err-if_holds
returns-in_err-if_holds g c =
    let p = err_from_is_err_and c.from_residual.result c.from_residual.ensures.1 in
    rw p.1 (follows_for (λ says. spec.if_match c.args.method says (option_copied c.args.found)) c.self.view_is (if_stopped c.args.method (conditions_of c.self.inside) (option_copied c.args.found) c.in_err-if_holds.ensures))

pub returns-then-not-branch : goal.returns-then-not-branch
returns-then-not-branch g c =
    follows_for (λ says. spec.if_match c.args.method says (option_copied c.args.found)) c.self.view_is (if_failed c.args.method (conditions_of c.self.inside) (option_copied c.args.found) c.in_ok-if_holds.field-0 c.if-not-branch.true c.in_ok-if_holds.ensures)

pub returns : goal.returns
returns g c =
    follows_for (λ says. spec.if_match c.args.method says (option_copied c.args.found)) c.self.view_is (if_held c.args.method (conditions_of c.self.inside) (option_copied c.args.found) c.in_ok-if_holds.field-0 c.http_status.result c.if-not-branch.false c.http_status.ensures c.in_ok-if_holds.ensures)
