use Rattle.std.proofs.Common.{true, false, sym, ◌∙◌}
use Rattle.dav_engine.specs.CopyMove.{is_move}
use Rattle.dav_engine.specs.Reach.{reaches_below}
use Rattle.dav_engine.proofs.CopyMoveLemmas.{brings}
use Rattle.dav_engine.proofs.methods.copy_move.bring.Goals as goal

pub returns-then-is_move : goal.returns-then-is_move
returns-then-is_move g c =
    let job = c.args.job.now in
    brings (is_move job.method) (reaches_below job.reach) job.caller.now.moment job.source.now job.destination.now _ true c.is_replaced.result c.copied_status-status.result (sym c.if-is_move.true ∙ c.is_move.ensures) c.is_replaced.ensures c.drop_if.ensures c.copied_status-status.ensures c.move_to.ensures

pub returns-else-is_move : goal.returns-else-is_move
returns-else-is_move g c =
    let job = c.args.job.now in
    brings (is_move job.method) (reaches_below job.reach) job.caller.now.moment job.source.now job.destination.now _ false c.is_replaced.result c.copied_status-status.result (sym c.if-is_move.false ∙ c.is_move.ensures) c.is_replaced.ensures c.drop_if.ensures c.copied_status-status.ensures (c.copy_to.ensures _)
