use Rattle.dav_engine.proofs.davinner.DavInner.lock_found.Goals as goal
use Rattle.std.proofs.lemmas.Result.{err_from_is_err_and}
use Rattle.dav_engine.proofs.Following.{follows_up_to}

pub returns-in_err-path-clause-plan : goal.returns-in_err-path-clause-plan
returns-in_err-path-clause-plan g c =
    let p = err_from_is_err_and c.from_residual.result c.from_residual.ensures.1 in
    rw (p.1, p.2) follows_up_to
