use Rattle.std.proofs.Common.{ap, sym, ◌∙◌}
use Rattle.std.proofs.lemmas.Result.{err_from_is_err_and}
use Rattle.dav_engine.specs.Follows.{viewed}
use Rattle.dav_engine.specs.Reach.{reaches_below}
use Rattle.dav_engine.proofs.DeleteLemmas.{depth_refused, metadata_refused, metadata_short, was_found}
use Rattle.dav_engine.proofs.methods.delete.delete.Goals as goal

pub returns-in_err-reach : goal.returns-in_err-reach
returns-in_err-reach g c =
    let p = err_from_is_err_and c.from_residual.result c.from_residual.ensures.1 in
    rw (p.1, p.2) (depth_refused c.args.conditions.now c.args.depth c.args.path.now c.args.caller.now _ (sym c.whole_depth.ensures ∙ ap (viewed reaches_below) c.in_err-reach.was))

pub returns-in-Err : goal.returns-in-Err
returns-in-Err g c = metadata_refused c.args.conditions.now c.args.depth c.args.path.now c.args.caller.now (reaches_below c.in_ok-reach.reach) _ (sym c.whole_depth.ensures ∙ ap (viewed reaches_below) c.in_ok-reach.was) c.in-Err.ensures.asks

pub returns-in_err-path : goal.returns-in_err-path
returns-in_err-path g c =
    let p = err_from_is_err_and c.from_residual-in_err-path.result c.from_residual-in_err-path.ensures.1 in
    rw (p.1, p.2) (metadata_short c.args.conditions.now c.args.depth c.args.path.now c.args.caller.now (reaches_below c.in_ok-reach.reach) c.in-Ok.found (sym c.whole_depth.ensures ∙ ap (viewed reaches_below) c.in_ok-reach.was) c.in-Ok.ensures.asks)

pub returns : goal.returns
returns g c = was_found c.args.conditions.now c.args.depth c.args.path.now c.in_ok-path.path c.args.caller.now (reaches_below c.in_ok-reach.reach) c.in-Ok.found _
    (sym c.whole_depth.ensures ∙ ap (viewed reaches_below) c.in_ok-reach.was) c.in-Ok.ensures.asks c.in_ok-path.ensures c.delete_found.ensures
