use Rattle.std.proofs.Common.{◌∙◌, refl}
use Rattle.std.proofs.lemmas.Result.{err_from_is_err_and}
use Rattle.dav_engine.specs.CopyMove.{copy_allowed, is_move}
use Rattle.dav_engine.specs.Reach.{reaches_below}
use Rattle.dav_engine.proofs.CutWalks.{cut_stops}
use Rattle.dav_engine.proofs.DeleteLemmas.{held_locks}
use Rattle.dav_engine.proofs.CopyMoveLemmas.{found_refused, found_stopped, found_stays, found_clear, clearing_walked, clearing_stops, brings_as}
use Rattle.dav_engine.proofs.methods.copy_move.copy_found.Goals as goal

pub returns-in_err-there : goal.returns-in_err-there
returns-in_err-there g c =
    let p = err_from_is_err_and c.from_residual.result c.from_residual.ensures.1 in
    let judged = copy_allowed c.args.job.now.method (reaches_below c.args.job.now.reach) c.args.headers.now c.args.job.now.source.now c.args.job.now.destination.now c.args.job.now.caller.now c.args.found.now in
    rw (p.1, p.2) (found_refused c.args.job.now.method (reaches_below c.args.job.now.reach) c.args.headers.now c.args.job.now.source.now c.args.job.now.destination.now c.args.job.now.caller.now c.args.found.now _ (held_locks g.L.DavLockSystem.locks _ _ judged c.as_ref.ensures.value c.in_err-there.ensures))

pub returns-in_err-clearing : goal.returns-in_err-clearing
returns-in_err-clearing g c =
    let p = err_from_is_err_and c.from_residual-in_err-clearing.result c.from_residual-in_err-clearing.ensures.1 in
    let judged = copy_allowed c.args.job.now.method (reaches_below c.args.job.now.reach) c.args.headers.now c.args.job.now.source.now c.args.job.now.destination.now c.args.job.now.caller.now c.args.found.now in
    rw (p.1, p.2) (found_stopped c.args.job.now.method (reaches_below c.args.job.now.reach) c.args.headers.now c.args.job.now.source.now c.args.job.now.destination.now c.args.job.now.caller.now c.args.found.now c.in_ok-there.there (held_locks g.L.DavLockSystem.locks _ _ judged c.as_ref.ensures.value c.in_ok-there.ensures) (clearing_stops (reaches_below c.args.job.now.reach) _ c.args.job.now.destination.now c.as_ref-there.ensures.value (cut_stops c.in_err-clearing.ensures)))

pub returns-then-not-branch : goal.returns-then-not-branch
returns-then-not-branch g c =
    let judged = copy_allowed c.args.job.now.method (reaches_below c.args.job.now.reach) c.args.headers.now c.args.job.now.source.now c.args.job.now.destination.now c.args.job.now.caller.now c.args.found.now in
    found_stays c.args.job.now.method (reaches_below c.args.job.now.reach) c.args.headers.now c.args.job.now.source.now c.args.job.now.destination.now c.args.job.now.caller.now c.args.found.now c.in_ok-there.there (held_locks g.L.DavLockSystem.locks _ _ judged c.as_ref.ensures.value c.in_ok-there.ensures) _ _ (clearing_walked (reaches_below c.args.job.now.reach) _ c.args.job.now.destination.now c.as_ref-there.ensures.value (rw c.if-not-branch.true at c.in_ok-clearing.ensures)) (c.new-errors.ensures ∙ c.new.ensures.items) c.into_items.ensures c.multi_error.ensures.ok c.multi_error.ensures.err

pub returns : goal.returns
returns g c =
    let judged = copy_allowed c.args.job.now.method (reaches_below c.args.job.now.reach) c.args.headers.now c.args.job.now.source.now c.args.job.now.destination.now c.args.job.now.caller.now c.args.found.now in
    found_clear c.args.job.now.method (reaches_below c.args.job.now.reach) c.args.headers.now c.args.job.now.source.now c.args.job.now.destination.now c.args.job.now.caller.now c.args.found.now c.in_ok-there.there (held_locks g.L.DavLockSystem.locks _ _ judged c.as_ref.ensures.value c.in_ok-there.ensures) (is_move c.args.job.now.method) c.args.job.now.caller.now.moment (clearing_walked (reaches_below c.args.job.now.reach) _ c.args.job.now.destination.now c.as_ref-there.ensures.value (rw c.if-not-branch.false at c.in_ok-clearing.ensures)) refl refl
    (brings_as (is_move c.args.job.now.method) (reaches_below c.args.job.now.reach) c.args.job.now.caller.now.moment c.args.job.now.source.now c.args.job.now.destination.now c.as_ref-there.ensures.value c.bring.ensures)
