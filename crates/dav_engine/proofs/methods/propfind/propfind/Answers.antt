use Rattle.std.proofs.lemmas.Result.{err_from_is_err_and}
use Rattle.dav_engine.proofs.Following.{follows_up_to}
use Rattle.dav_engine.proofs.TakingLemmas.{hands_by, hands_err, hands_itself}
use Rattle.dav_engine.proofs.FindLemmas.{depth_refused, not_there, is_there}
use Rattle.dav_engine.proofs.methods.propfind.propfind.Goals as goal

pub returns-in_err-finite_depth : goal.returns-in_err-finite_depth
returns-in_err-finite_depth g c =
    let p = err_from_is_err_and c.from_residual.result c.from_residual.ensures.1 in
    rw (p.1, p.2) (hands_err g.T.Takes.opened g.T.Takes.taken c.args.to _ follows_up_to)

pub returns-then-not-is_served : goal.returns-then-not-is_served
returns-then-not-is_served g c =
    hands_itself g.T.Takes.opened g.T.Takes.taken c.args.to _ (depth_refused c.args.search.headers.now c.args.search.request.now.headers c.args.search.request.now.path c.args.search.body.now c.args.search.caller.now c.is_served.result _ c.is_served.ensures c.if-not-is_served.true c.in_ok-finite_depth.ensures)

pub returns-in-Ok : goal.returns-in-Ok
returns-in-Ok g c =
    hands_by g.T.Takes.opened g.T.Takes.taken c.args.to _ (λ whole. is_there c.args.search.headers.now c.args.search.request.now.headers c.args.search.request.now.path c.args.search.body.now c.args.search.caller.now c.is_served.result c.in-Ok.found whole c.is_served.ensures c.if-not-is_served.false c.in-Ok.ensures.asks) c.propfind_found.ensures

pub returns-in-Err : goal.returns-in-Err
returns-in-Err g c =
    hands_err g.T.Takes.opened g.T.Takes.taken c.args.to _ (not_there c.args.search.headers.now c.args.search.request.now.headers c.args.search.request.now.path c.args.search.body.now c.args.search.caller.now c.is_served.result _ c.is_served.ensures c.if-not-is_served.false c.in-Err.ensures.asks)
