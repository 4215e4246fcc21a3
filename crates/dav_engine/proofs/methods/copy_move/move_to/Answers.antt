use Rattle.std.proofs.Common.{sym, ◌∙◌}
use Rattle.std.proofs.lemmas.Result.{err_from_is_err_and}
use Rattle.dav_engine.specs.Reach.{reaches_below}
use Rattle.dav_engine.proofs.CopyMoveLemmas.{move_short, move_left, move_done}
use Rattle.dav_engine.proofs.methods.copy_move.move_to.Goals as goal

pub returns-in_err-renaming : goal.returns-in_err-renaming
returns-in_err-renaming g c =
    let p = err_from_is_err_and c.from_residual.result c.from_residual.ensures.1 in
    rw (p.1, p.2) (rw (← c.caller.view_is) (move_short (reaches_below c.args.job.now.reach) c.caller.inside.moment c.args.job.now.source.now c.args.job.now.destination.now c.args.status c.in_err-renaming.ensures.err.0.0 c.in_err-renaming.ensures.err.0.1))

pub returns-then-is_some : goal.returns-then-is_some
returns-then-is_some g c =
    rw (← c.caller.view_is) (move_left (reaches_below c.args.job.now.reach) c.caller.inside.moment c.args.job.now.source.now c.args.job.now.destination.now c.args.status c.in_ok-renaming.field-0 _ _ (sym c.is_some.ensures ∙ c.if-is_some.true) c.in_ok-renaming.ensures.ok (c.new-errors.ensures ∙ c.new.ensures.items) c.into_items.ensures c.multi_error.ensures.ok c.multi_error.ensures.err)

pub returns : goal.returns
returns g c =
    rw (← c.caller.view_is) (move_done (reaches_below c.args.job.now.reach) c.caller.inside.moment c.args.job.now.source.now c.args.job.now.destination.now c.args.status c.in_ok-renaming.field-0 _ (sym c.is_some.ensures ∙ c.if-is_some.false) c.in_ok-renaming.ensures.ok c.drop_locks.ensures c.status_reply.ensures)
