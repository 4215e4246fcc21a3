use Rattle.std.proofs.Common.{◌≡◌, Err, refl, rules}
use Rattle.std.proofs.lemmas.Result.{err_from_is_err_and}
use Rattle.dav_live.specs.declared.fault.Fault.TheVariants.{Ended}
use Rattle.dav_live.proofs.follower.Follower.listen.Goals as goal

pub returns-in_err-read_more-clause-ended : goal.returns-in_err-read_more-clause-ended
returns-in_err-read_more-clause-ended g c is =
    let p = err_from_is_err_and c.from_residual.result c.from_residual.ensures.1 in
    let failed : c.read_more.result ≡ Err Ended = search rules in
    let ended = c.read_more.ensures.ended failed in
    (refl, ended.0, ended.2)
