use Rattle.std.proofs.lemmas.Result.{err_from_is_err_and}
use Rattle.dav_engine.proofs.MkcolLemmas.{mkcol_ends, mkcol_refused, mkcol_wants, mkcol_made}
use Rattle.dav_engine.proofs.ModelLemmas.{made_for}
use Rattle.dav_engine.proofs.methods.mkcol.mkcol.Goals as goal

pub returns-in_err-allowed : goal.returns-in_err-allowed
returns-in_err-allowed g c =
    let p = err_from_is_err_and c.from_residual.result c.from_residual.ensures.1 in
    rw (p.1, p.2) (mkcol_ends c.args.conditions.now c.args.path.now c.args.caller.now _ c.in_err-allowed.ensures)

pub returns-in-Err : goal.returns-in-Err
returns-in-Err g c = mkcol_refused c.args.conditions.now c.args.path.now c.args.caller.now _ _ c.in_ok-allowed.ensures (made_for c.caller.view_is c.in-Err.ensures) c.create_error.ensures

pub returns-in_err-made : goal.returns-in_err-made
returns-in_err-made g c =
    let p = err_from_is_err_and c.from_residual-in_err-made.result c.from_residual-in_err-made.ensures.1 in
    rw (p.1, p.2) (mkcol_wants c.args.conditions.now c.args.path.now c.args.caller.now _ c.in_ok-allowed.ensures (made_for c.caller.view_is c.in-Ok.ensures))

pub returns : goal.returns
returns g c = mkcol_made c.args.conditions.now c.args.path.now c.args.caller.now _ _ c.in_ok-allowed.ensures (made_for c.caller.view_is c.in-Ok.ensures) c.in_ok-made.ensures
