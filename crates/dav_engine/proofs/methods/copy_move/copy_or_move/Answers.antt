use Rattle.std.proofs.Common.{sym, ap, ◌∙◌}
use Rattle.std.proofs.lemmas.Result.{err_from_is_err_and}
use Rattle.dav_engine.specs.CopyView.{copy_headers_of}
use Rattle.dav_engine.specs.Follows.{viewed}
use Rattle.dav_engine.specs.Reach.{reaches_below}
use Rattle.dav_engine.proofs.CopyMoveLemmas.{depth_refused, nowhere, source_refused, source_short, source_found, destination_other}
use Rattle.dav_engine.proofs.methods.copy_move.copy_or_move.Goals as goal

pub returns-in_err-reach : goal.returns-in_err-reach
returns-in_err-reach g c =
    let p = err_from_is_err_and c.from_residual.result c.from_residual.ensures.1 in
    rw (p.1, p.2) (rw (← c.headers.view_is) (depth_refused c.args.method (copy_headers_of c.headers.inside) c.args.path.now c.args.caller.now _ (sym c.copy_depth.ensures ∙ ap (viewed reaches_below) c.in_err-reach.was)))

pub returns-in-Err : goal.returns-in-Err
returns-in-Err g c =
    rw (← c.headers.view_is) (nowhere c.args.method (copy_headers_of c.headers.inside) c.args.path.now c.args.caller.now (reaches_below c.in_ok-reach.reach) (sym c.copy_depth.ensures ∙ ap (viewed reaches_below) c.in_ok-reach.was) _ c.in-Err.is)

pub returns-in-Err-source_metadata : goal.returns-in-Err-source_metadata
returns-in-Err-source_metadata g c =
    rw (← c.headers.view_is) (source_refused c.args.method (copy_headers_of c.headers.inside) c.args.path.now c.args.caller.now (reaches_below c.in_ok-reach.reach) (sym c.copy_depth.ensures ∙ ap (viewed reaches_below) c.in_ok-reach.was) _ c.in-Ok.is _ c.in-Err-source_metadata.ensures)

pub returns-in_err-source : goal.returns-in_err-source
returns-in_err-source g c =
    let p = err_from_is_err_and c.from_residual-in_err-source.result c.from_residual-in_err-source.ensures.1 in
    rw (p.1, p.2) (rw (← c.headers.view_is) (source_short c.args.method (copy_headers_of c.headers.inside) c.args.path.now c.args.caller.now (reaches_below c.in_ok-reach.reach) (sym c.copy_depth.ensures ∙ ap (viewed reaches_below) c.in_ok-reach.was) _ c.in-Ok.is _ c.in-Ok-source_metadata.ensures))

pub returns : goal.returns
returns g c =
    rw (← c.headers.view_is) (source_found c.args.method (copy_headers_of c.headers.inside) c.args.path.now c.args.caller.now (reaches_below c.in_ok-reach.reach) (sym c.copy_depth.ensures ∙ ap (viewed reaches_below) c.in_ok-reach.was) _ c.in-Ok.is c.in_ok-source.source c.in-Ok-source_metadata.found _ c.in-Ok-source_metadata.ensures c.in_ok-source.ensures (rw (← c.headers.view_is) at c.copy_found.ensures))

pub copy_found-requires-clause-destination : goal.copy_found-requires-clause-destination
copy_found-requires-clause-destination g c = destination_other c.in-Ok.destination c.headers.view_is c.in-Ok.is c.requires.destination
