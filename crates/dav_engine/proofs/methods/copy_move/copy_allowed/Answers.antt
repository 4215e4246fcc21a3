use Rattle.std.proofs.lemmas.Result.{err_from_is_err_and}
use Rattle.dav_engine.specs.CopyView.{copy_headers_of}
use Rattle.dav_engine.specs.Reach.{reaches_below}
use Rattle.dav_engine.proofs.CopyMoveLemmas.{allowed_nowhere, allowed_above, allowed_unfree, allowed_free}
use Rattle.dav_engine.proofs.methods.copy_move.copy_allowed.Goals as goal

pub returns-in_err-there : goal.returns-in_err-there
returns-in_err-there g c =
    let p = err_from_is_err_and c.from_residual.result c.from_residual.ensures.1 in
    rw (p.1, p.2) (rw (← c.headers.view_is) (allowed_nowhere c.args.job.now.method (reaches_below c.args.job.now.reach) (copy_headers_of c.headers.inside) c.args.job.now.source.now c.args.job.now.destination.now c.args.job.now.caller.now c.args.found.now _ c.in_err-there.ensures))

pub returns-then-is_at_or_under : goal.returns-then-is_at_or_under
returns-then-is_at_or_under g c =
    rw (← c.headers.view_is) (allowed_above c.args.job.now.method (reaches_below c.args.job.now.reach) (copy_headers_of c.headers.inside) c.args.job.now.source.now c.args.job.now.destination.now c.args.job.now.caller.now c.args.found.now c.in_ok-there.there c.is_at_or_under.result c.in_ok-there.ensures c.is_at_or_under.ensures c.if-is_at_or_under.true)

pub returns-in_err-copy_free : goal.returns-in_err-copy_free
returns-in_err-copy_free g c =
    let p = err_from_is_err_and c.from_residual-in_err-copy_free.result c.from_residual-in_err-copy_free.ensures.1 in
    rw (p.1, p.2) (rw (← c.headers.view_is) (allowed_unfree c.args.job.now.method (reaches_below c.args.job.now.reach) (copy_headers_of c.headers.inside) c.args.job.now.source.now c.args.job.now.destination.now c.args.job.now.caller.now c.args.found.now c.in_ok-there.there c.is_at_or_under.result c.in_ok-there.ensures c.is_at_or_under.ensures c.if-is_at_or_under.false _ (rw c.as_ref.ensures.value at c.in_err-copy_free.ensures)))

pub returns : goal.returns
returns g c =
    rw (← c.headers.view_is) (allowed_free c.args.job.now.method (reaches_below c.args.job.now.reach) (copy_headers_of c.headers.inside) c.args.job.now.source.now c.args.job.now.destination.now c.args.job.now.caller.now c.args.found.now c.in_ok-there.there c.is_at_or_under.result c.in_ok-there.ensures c.is_at_or_under.ensures c.if-is_at_or_under.false (rw c.as_ref.ensures.value at c.in_ok-copy_free.ensures))
