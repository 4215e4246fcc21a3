use Rattle.std.proofs.Common.{ap, Ok}
use Rattle.std.proofs.lemmas.Result.{err_from_is_err_and}
use Rattle.dav_engine.proofs.Theorems.{follows_done, follows_up_to}
use Rattle.dav_server.proofs.GetLemmas.{shows}
use Rattle.dav_server.proofs.handle_gethead.show_or_tell.Goals as goal

pub returns-in_err-told-in-Head : goal.returns-in_err-told-in-Head
returns-in_err-told-in-Head g c ls =
    let p = err_from_is_err_and c.from_residual.result c.from_residual.ensures.1 in
    rw (p.1, p.2) follows_up_to

pub returns-in_ok-told-in-Head : goal.returns-in_ok-told-in-Head
returns-in_ok-told-in-Head g c ls = rw c.in-Head.is (follows_done (ap Ok c.in_ok-told-in-Head.ensures))

pub returns-in_default : goal.returns-in_default
returns-in_default g c ls = shows _ _ _ c.args.method c.in_default.not-Head (c.show.ensures ls)
