use Rattle.std.proofs.Common.{refl, Some}
use Rattle.std.proofs.lemmas.Result.{err_from_is_err_and}
use Rattle.dav_engine.specs.CallerView.{caller_of}
use Rattle.dav_engine.specs.Folder.{location_found}
use Rattle.dav_engine.specs.Proppatch.{proppatch_at}
use Rattle.dav_engine.proofs.Following.{follows_up_to}
use Rattle.dav_engine.proofs.ModelLemmas.{follows_for}
use Rattle.dav_engine.proofs.ProppatchLemmas.{at_closed, patch_short, patch_failed, patch_free, patch_locked}
use Rattle.dav_engine.proofs.methods.proppatch.proppatch_found.Goals as goal

pub returns-in_err-path : goal.returns-in_err-path
returns-in_err-path g c =
    let p = err_from_is_err_and c.from_residual.result c.from_residual.ensures.1 in
    rw (p.1, p.2) follows_up_to

pub returns-in_err-verdict : goal.returns-in_err-verdict
returns-in_err-verdict g c =
    let p = err_from_is_err_and c.from_residual-in_err-verdict.result c.from_residual-in_err-verdict.ensures.1 in
    rw (p.1, p.2) (at_closed c.args.update.conditions.now c.args.update.asked.now c.in_ok-path.path c.args.update.body.now c.args.update.caller.now c.args.found.now c.in_ok-path.ensures
    (patch_short c.args.update.conditions.now c.in_ok-path.path (location_found (Some c.args.found.now) c.args.update.asked.now) c.args.update.body.now c.args.update.caller.now c.args.found.now _ _ _ refl c.in_err-verdict.was c.if_match_get_tokens.ensures))

pub returns-in-Err : goal.returns-in-Err
returns-in-Err g c =
    at_closed c.args.update.conditions.now c.args.update.asked.now c.in_ok-path.path c.args.update.body.now c.args.update.caller.now c.args.found.now c.in_ok-path.ensures
    (patch_failed c.args.update.conditions.now c.in_ok-path.path (location_found (Some c.args.found.now) c.args.update.asked.now) c.args.update.body.now c.args.update.caller.now c.args.found.now _ _ _ _ refl c.in_ok-verdict.was c.in-Err.is c.if_match_get_tokens.ensures)

pub returns-then-not-is_open : goal.returns-then-not-is_open
returns-then-not-is_open g c =
    follows_for (λ who. proppatch_at c.args.update.conditions.now c.args.update.asked.now c.args.update.body.now who c.args.found.now) c.caller.view_is
    (at_closed c.args.update.conditions.now c.args.update.asked.now c.in_ok-path.path c.args.update.body.now (caller_of c.caller.inside) c.args.found.now c.in_ok-path.ensures
    (patch_locked c.args.update.conditions.now c.in_ok-path.path (location_found (Some c.args.found.now) c.args.update.asked.now) c.args.update.body.now (caller_of c.caller.inside) c.args.found.now _ _ _ c.in-Ok.tokens c.deref.result.now c.is_open.result
    refl c.in_ok-verdict.was c.in-Ok.is c.if_match_get_tokens.ensures c.deref.ensures.value c.is_open.ensures c.if-not-is_open.true))

pub returns : goal.returns
returns g c =
    follows_for (λ who. proppatch_at c.args.update.conditions.now c.args.update.asked.now c.args.update.body.now who c.args.found.now) c.caller.view_is
    (at_closed c.args.update.conditions.now c.args.update.asked.now c.in_ok-path.path c.args.update.body.now (caller_of c.caller.inside) c.args.found.now c.in_ok-path.ensures
    (patch_free c.args.update.conditions.now c.in_ok-path.path (location_found (Some c.args.found.now) c.args.update.asked.now) c.args.update.body.now (caller_of c.caller.inside) c.args.found.now _ _ _ c.in-Ok.tokens c.deref.result.now c.is_open.result
    refl c.in_ok-verdict.was c.in-Ok.is c.if_match_get_tokens.ensures c.deref.ensures.value c.is_open.ensures c.if-not-is_open.false (c.patch_properties.ensures _)))
