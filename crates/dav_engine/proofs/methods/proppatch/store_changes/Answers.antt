use Rattle.std.proofs.Common.{Ok, refl, sym, ap}
use Rattle.std.proofs.lemmas.Result.{err_from_is_err_and}
use Rattle.dav_engine.proofs.Following.{follows_up_to}
use Rattle.dav_engine.proofs.ProppatchLemmas.{stored_none, stored_some}
use Rattle.dav_engine.proofs.methods.proppatch.store_changes.Goals as goal

pub returns-then-is_empty : goal.returns-then-is_empty
returns-then-is_empty g c ls =
    stored_none c.args.path.now c.args.changes.now (sym c.if-is_empty.ensures) (ap Ok c.new.ensures.items)

pub returns-in_err-patches : goal.returns-in_err-patches
returns-in_err-patches g c ls =
    let p = err_from_is_err_and c.from_residual.result c.from_residual.ensures.1 in
    rw (p.1, p.2) follows_up_to

pub returns-in-Ok : goal.returns-in-Ok
returns-in-Ok g c ls =
    stored_some c.args.path.now c.args.changes.now _ _ (sym c.if-is_empty.ensures) c.in_ok-patches.ensures c.in-Ok.ensures refl

pub returns-in-Err : goal.returns-in-Err
returns-in-Err g c ls =
    stored_some c.args.path.now c.args.changes.now _ _ (sym c.if-is_empty.ensures) c.in_ok-patches.ensures c.in-Err.ensures refl
