use Rattle.std.proofs.Common.{ap, Ok, rules}
use Rattle.std.proofs.lemmas.Result.{err_from_is_err_and}
use Rattle.dav_engine.proofs.Theorems.{follows_up_to}
use Rattle.dav_server.proofs.GetLemmas.{has_it, refuses_it}
use Rattle.dav_server.proofs.handle_gethead.judged.Goals as goal

pub returns-in_err-not_modified : goal.returns-in_err-not_modified
returns-in_err-not_modified c next s ls =
    let p = err_from_is_err_and c.from_residual.result c.from_residual.ensures.1 in
    rw (p.1, p.2) follows_up_to

pub returns-in_ok-not_modified : goal.returns-in_ok-not_modified
returns-in_ok-not_modified c next s ls = has_it c.args.found.now next c.args.status (search rules) (ap Ok c.in_ok-not_modified.ensures)

pub returns-else-as_u16-eq304 : goal.returns-else-as_u16-eq304
returns-else-as_u16-eq304 c next s ls = refuses_it c.args.found.now next c.args.status (search rules)
