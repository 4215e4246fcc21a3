use Rattle.std.proofs.Common.{◌∙◌}
use Rattle.std.proofs.lemmas.Result.{err_from_is_err_and}
use Rattle.dav_engine.specs.CallerView.{caller_of}
use Rattle.dav_engine.proofs.MkcolLemmas.{mkcol_short, mkcol_failed, mkcol_checked}
use Rattle.dav_engine.proofs.methods.mkcol.allowed.Goals as goal
use Rattle.dav_engine.specs.Mkcol.{mkcol_allowed}
use Rattle.dav_engine.specs.MembersView.{members_change}
use Rattle.dav_engine.proofs.ModelLemmas.{follows_for}

pub returns-in_err-verdict : goal.returns-in_err-verdict
returns-in_err-verdict g c =
    let p = err_from_is_err_and c.from_residual.result c.from_residual.ensures.1 in
    rw (p.1, p.2) (mkcol_short c.args.conditions.now c.args.path.now c.args.caller.now _ _ _ _ c.metadata.ensures.asks (c.as_ref.ensures.value ∙ c.ok-found.ensures.value) c.in_err-verdict.was c.if_match_get_tokens.ensures)

pub returns-in-Err : goal.returns-in-Err
returns-in-Err g c = mkcol_failed c.args.conditions.now c.args.path.now c.args.caller.now _ _ _ _ _
    c.metadata.ensures.asks (c.as_ref.ensures.value ∙ c.ok-found.ensures.value) c.in_ok-verdict.was c.in-Err.is c.if_match_get_tokens.ensures

pub returns : goal.returns
returns g c = follows_for (λ who. mkcol_allowed c.args.conditions.now c.args.path.now who) c.caller.view_is (mkcol_checked c.args.conditions.now c.args.path.now (caller_of c.caller.inside) _ _ _ _ _ c.in-Ok.tokens c.deref.result.now (members_change c.when_made.result) c.member_allowed.result
    c.metadata.ensures.asks (c.as_ref.ensures.value ∙ c.ok-found.ensures.value) c.in_ok-verdict.was c.in-Ok.is c.if_match_get_tokens.ensures c.when_made.ensures (c.as_ref-2.ensures.value ∙ c.ok-found.ensures.value) c.deref.ensures.value c.member_allowed.ensures)
