use Rattle.dav_engine.specs.Reach.{reaches_below}
use Rattle.dav_engine.proofs.CopyMoveLemmas.{nothing_cleared, all_cleared}
use Rattle.dav_engine.proofs.methods.copy_move.clearing.Goals as goal

pub returns-then-not-is_replaced : goal.returns-then-not-is_replaced
returns-then-not-is_replaced g c =
    nothing_cleared (reaches_below c.args.job.now.reach) c.args.job.now.caller.now.moment c.args.job.now.destination.now _ c.is_replaced.result c.is_replaced.ensures c.if-not-is_replaced.true

pub returns : goal.returns
returns g c =
    rw (← c.caller.view_is) (all_cleared (reaches_below c.args.job.now.reach) c.caller.inside.moment c.args.job.now.destination.now _ c.is_replaced.result c.is_replaced.ensures c.removal.result _ _ _ _ c.if-not-is_replaced.false c.is_folder_found-dir.ensures c.removal.ensures)
