use Rattle.std.proofs.Common.{Some}
use Rattle.std.proofs.lemmas.Result.{err_from_is_err_and}
use Rattle.dav_engine.specs.CallerView.{caller_of}
use Rattle.dav_engine.specs.ConditionView.{locks_in}
use Rattle.dav_engine.specs.Folder.{closed, location_found}
use Rattle.dav_engine.specs.Propfind.{propfind_found}
use Rattle.dav_engine.proofs.FindLemmas.{no_query, this_query, answers_by, finds_stopped, finds_short, finds_all}
use Rattle.dav_engine.proofs.Following.{follows_up_to}
use Rattle.dav_engine.proofs.ModelLemmas.{follows_for}
use Rattle.dav_engine.proofs.TakingLemmas.{hands_by, hands_err}
use Rattle.dav_engine.proofs.methods.propfind.propfind_found.Goals as goal

pub returns-in_err-path : goal.returns-in_err-path
returns-in_err-path g c =
    let p = err_from_is_err_and c.from_residual.result c.from_residual.ensures.1 in
    rw (p.1, p.2) (hands_err g.T.Takes.opened g.T.Takes.taken c.args.to _ follows_up_to)

pub returns-in_err-telling : goal.returns-in_err-telling
returns-in_err-telling g c =
    let p = err_from_is_err_and c.from_residual-in_err-telling.result c.from_residual-in_err-telling.ensures.1 in
    rw (p.1, p.2) (hands_err g.T.Takes.opened g.T.Takes.taken c.args.to _ follows_up_to)

pub returns-in_default : goal.returns-in_default
returns-in_default g c =
    hands_err g.T.Takes.opened g.T.Takes.taken c.args.to _ (no_query c.args.search.headers.now c.args.search.request.now.headers (closed c.args.found.now.dir c.args.search.request.now.path) c.args.search.body.now c.args.search.caller.now (location_found (Some c.args.found.now) c.args.search.request.now.path) c.args.found.now (rw c.in_default.is at c.in_ok-telling.ensures))

pub returns-in_err-writer : goal.returns-in_err-writer
returns-in_err-writer g c =
    let p = err_from_is_err_and c.from_residual-in_err-writer.result c.from_residual-in_err-writer.ensures.1 in
    rw (p.1, p.2) (hands_err g.T.Takes.opened g.T.Takes.taken c.args.to _ follows_up_to)

pub returns-in_err-told : goal.returns-in_err-told
returns-in_err-told g c =
    let p = err_from_is_err_and c.from_residual-in_err-told.result c.from_residual-in_err-told.ensures.1 in
    rw (p.1, p.2) (hands_err g.T.Takes.opened g.T.Takes.taken c.args.to _ (follows_for (λ who. propfind_found c.args.search.headers.now c.args.search.request.now.headers (closed c.args.found.now.dir c.args.search.request.now.path) (location_found (Some c.args.found.now) c.args.search.request.now.path) c.args.search.body.now who c.args.found.now) c.caller.view_is
    (this_query c.args.search.headers.now c.args.search.request.now.headers (closed c.args.found.now.dir c.args.search.request.now.path) c.args.search.body.now (caller_of c.caller.inside) (location_found (Some c.args.found.now) c.args.search.request.now.path) c.args.found.now (c.in-Some.telling, c.in-Some.properties.items) (rw c.in-Some.is at c.in_ok-telling.ensures)
    (answers_by c.args.search.headers.now c.args.search.request.now.headers (closed c.args.found.now.dir c.args.search.request.now.path) c.args.search.body.now (caller_of c.caller.inside) (location_found (Some c.args.found.now) c.args.search.request.now.path) c.args.found.now (c.in-Some.telling, c.in-Some.properties.items) c.in_ok-writer.writer _ c.in_ok-writer.ensures c.in_ok-path.ensures
    (finds_stopped _ c.args.search.headers.now _ _ c.args.found.now (location_found (Some c.args.found.now) c.args.search.request.now.path) c.in_err-told.ensures)))))

pub returns-in_err-reply : goal.returns-in_err-reply
returns-in_err-reply g c =
    let p = err_from_is_err_and c.from_residual-in_err-reply.result c.from_residual-in_err-reply.ensures.1 in
    rw (p.1, p.2) (hands_err g.T.Takes.opened g.T.Takes.taken c.args.to _ (follows_for (λ who. propfind_found c.args.search.headers.now c.args.search.request.now.headers (closed c.args.found.now.dir c.args.search.request.now.path) (location_found (Some c.args.found.now) c.args.search.request.now.path) c.args.search.body.now who c.args.found.now) c.caller.view_is
    (this_query c.args.search.headers.now c.args.search.request.now.headers (closed c.args.found.now.dir c.args.search.request.now.path) c.args.search.body.now (caller_of c.caller.inside) (location_found (Some c.args.found.now) c.args.search.request.now.path) c.args.found.now (c.in-Some.telling, c.in-Some.properties.items) (rw c.in-Some.is at c.in_ok-telling.ensures)
    (answers_by c.args.search.headers.now c.args.search.request.now.headers (closed c.args.found.now.dir c.args.search.request.now.path) c.args.search.body.now (caller_of c.caller.inside) (location_found (Some c.args.found.now) c.args.search.request.now.path) c.args.found.now (c.in-Some.telling, c.in-Some.properties.items) c.in_ok-writer.writer _ c.in_ok-writer.ensures c.in_ok-path.ensures
    (finds_short _ c.args.search.headers.now _ _ c.args.found.now (location_found (Some c.args.found.now) c.args.search.request.now.path) g.T.Takes.opened g.T.Takes.taken c.args.to _ c.in_ok-told.ensures)))))

pub returns : goal.returns
returns g c =
    rw c.into_finished.ensures (hands_by g.T.Takes.opened g.T.Takes.taken c.args.to _ (λ whole one. follows_for (λ who. propfind_found c.args.search.headers.now c.args.search.request.now.headers (closed c.args.found.now.dir c.args.search.request.now.path) (location_found (Some c.args.found.now) c.args.search.request.now.path) c.args.search.body.now who c.args.found.now) c.caller.view_is
    (this_query c.args.search.headers.now c.args.search.request.now.headers (closed c.args.found.now.dir c.args.search.request.now.path) c.args.search.body.now (caller_of c.caller.inside) (location_found (Some c.args.found.now) c.args.search.request.now.path) c.args.found.now (c.in-Some.telling, c.in-Some.properties.items) (rw c.in-Some.is at c.in_ok-telling.ensures)
    (answers_by c.args.search.headers.now c.args.search.request.now.headers (closed c.args.found.now.dir c.args.search.request.now.path) c.args.search.body.now (caller_of c.caller.inside) (location_found (Some c.args.found.now) c.args.search.request.now.path) c.args.found.now (c.in-Some.telling, c.in-Some.properties.items) c.in_ok-writer.writer _ c.in_ok-writer.ensures c.in_ok-path.ensures one)))
    (finds_all (locks_in g.L.DavLockSystem.locks c.args.ls) c.args.search.headers.now _ _ c.args.found.now (location_found (Some c.args.found.now) c.args.search.request.now.path) g.T.Takes.opened g.T.Takes.taken c.args.to _ _ c.in_ok-told.ensures c.in_ok-reply.ensures))
