use Rattle.std.proofs.Common.{◌∙◌}
use Rattle.std.proofs.lemmas.Result.{err_from_is_err_and}
use Rattle.dav_engine.specs.Delete.{delete_allowed}
use Rattle.dav_engine.specs.Reach.{reaches_below}
use Rattle.dav_engine.proofs.CutWalks.{cut_stops}
use Rattle.dav_engine.proofs.DeleteLemmas.{held_locks, found_refused, found_stopped, found_stays, found_gone, walked_for, stopped_for}
use Rattle.dav_engine.proofs.methods.delete.delete_found.Goals as goal

pub returns-in_err-allowed : goal.returns-in_err-allowed
returns-in_err-allowed g c =
    let p = err_from_is_err_and c.from_residual.result c.from_residual.ensures.1 in
    let judged = delete_allowed c.args.conditions.now c.args.job.now.path.now c.args.job.now.caller.now c.args.found.now in
    rw (p.1, p.2) (found_refused (reaches_below c.args.job.now.reach) c.args.conditions.now c.args.job.now.path.now c.args.job.now.caller.now c.args.found.now _
    (held_locks g.L.DavLockSystem.locks _ _ judged c.as_ref.ensures.value c.in_err-allowed.ensures))

pub returns-in_err-removal : goal.returns-in_err-removal
returns-in_err-removal g c =
    let p = err_from_is_err_and c.from_residual-in_err-removal.result c.from_residual-in_err-removal.ensures.1 in
    let judged = delete_allowed c.args.conditions.now c.args.job.now.path.now c.args.job.now.caller.now c.args.found.now in
    rw (p.1, p.2) (found_stopped (reaches_below c.args.job.now.reach) c.args.conditions.now c.args.job.now.path.now c.args.job.now.caller.now c.args.found.now
    (held_locks g.L.DavLockSystem.locks _ _ judged c.as_ref.ensures.value c.in_ok-allowed.ensures)
    (stopped_for (reaches_below c.args.job.now.reach) c.args.job.now.path.now c.args.found.now.dir c.caller.view_is (cut_stops c.in_err-removal.ensures)))

pub returns-then-not-branch : goal.returns-then-not-branch
returns-then-not-branch g c =
    let judged = delete_allowed c.args.conditions.now c.args.job.now.path.now c.args.job.now.caller.now c.args.found.now in
    found_stays (reaches_below c.args.job.now.reach) c.args.conditions.now c.args.job.now.path.now c.args.job.now.caller.now c.args.found.now _ _
    (held_locks g.L.DavLockSystem.locks _ _ judged c.as_ref.ensures.value c.in_ok-allowed.ensures)
    (walked_for (reaches_below c.args.job.now.reach) c.args.job.now.path.now c.args.found.now.dir c.caller.view_is (rw c.if-not-branch.true at c.in_ok-removal.ensures))
    (c.new-errors.ensures ∙ c.new.ensures.items) c.into_items.ensures c.multi_error.ensures.ok c.multi_error.ensures.err

pub returns : goal.returns
returns g c =
    let judged = delete_allowed c.args.conditions.now c.args.job.now.path.now c.args.job.now.caller.now c.args.found.now in
    found_gone (reaches_below c.args.job.now.reach) c.args.conditions.now c.args.job.now.path.now c.args.job.now.caller.now c.args.found.now _
    (held_locks g.L.DavLockSystem.locks _ _ judged c.as_ref.ensures.value c.in_ok-allowed.ensures)
    (walked_for (reaches_below c.args.job.now.reach) c.args.job.now.path.now c.args.found.now.dir c.caller.view_is (rw c.if-not-branch.false at c.in_ok-removal.ensures))
    c.drop_locks.ensures c.status_reply.ensures
