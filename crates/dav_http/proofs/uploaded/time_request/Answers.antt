use Rattle.std.proofs.Common.{sym, subst}
use Rattle.dav_server.specs.Head.{Request}
use Rattle.dav_server.proofs.HeadLemmas.{one_head}
use Rattle.dav_http.specs.Uploaded.{TellsTime}
use Rattle.dav_http.proofs.UploadedLemmas.{told_so_ok}
use Rattle.dav_http.proofs.uploaded.time_request.Goals as goal

pub returns-in-Some : goal.returns-in-Some
returns-in-Some c =
    told_so_ok c.request_for.result
    (λ none r time is brings. none time (subst (λ (q : Request). TellsTime q time) (one_head c.args.head.now r c.in-Some.head is c.in-Some.ensures) brings.1))
    (λ set told. (c.in-Some.head, told.0, c.in-Some.ensures, (c.is_done.ensures.0 c.if-not-is_done.false, told.1), told.2, told.3))
    c.request_for.ensures
