use Rattle.std.proofs.Common.{refl}
use Rattle.std.proofs.lemmas.Result.{err_from_is_err_and}
use Rattle.dav_engine.specs.CallerView.{caller_of}
use Rattle.dav_engine.proofs.DeleteLemmas.{delete_short, delete_failed, delete_checked}
use Rattle.dav_engine.proofs.methods.delete.allowed.Goals as goal
use Rattle.dav_engine.specs.Delete.{delete_allowed}
use Rattle.dav_engine.proofs.ModelLemmas.{follows_for}

pub returns-in_err-verdict : goal.returns-in_err-verdict
returns-in_err-verdict g c =
    let p = err_from_is_err_and c.from_residual.result c.from_residual.ensures.1 in
    rw (p.1, p.2) (delete_short c.args.conditions.now c.args.job.now.path.now c.args.job.now.caller.now c.args.found.now _ _ _ refl c.in_err-verdict.was c.if_match_get_tokens.ensures)

pub returns-in-Err : goal.returns-in-Err
returns-in-Err g c = delete_failed c.args.conditions.now c.args.job.now.path.now c.args.job.now.caller.now c.args.found.now _ _ _ _ refl c.in_ok-verdict.was c.in-Err.is c.if_match_get_tokens.ensures

pub returns : goal.returns
returns g c = follows_for (λ who. delete_allowed c.args.conditions.now c.args.job.now.path.now who c.args.found.now) c.caller.view_is (delete_checked c.args.conditions.now c.args.job.now.path.now (caller_of c.caller.inside) c.args.found.now _ _ _ c.in-Ok.tokens c.deref.result.now c.member_allowed.result
    refl c.in_ok-verdict.was c.in-Ok.is c.if_match_get_tokens.ensures c.deref.ensures.value c.member_allowed.ensures)
