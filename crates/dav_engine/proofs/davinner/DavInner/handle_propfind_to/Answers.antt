use Rattle.std.proofs.Common.{Err, refl}
use Rattle.std.proofs.lemmas.Result.{err_from_is_err_and}
use Rattle.dav_core.specs.declared.errors.DavError.TheVariants as dav
use Rattle.dav_engine.specs.OnHandler.{caller_in}
use Rattle.dav_engine.specs.Follows.{not_begun}
use Rattle.dav_engine.specs.Propfind.{propfind, is_propfind}
use Rattle.dav_engine.proofs.GuardLemmas.{carried}
use Rattle.dav_engine.proofs.davinner.DavInner.handle_propfind_to.Goals as goal

pub returns-in_err-headers-clause-serves : goal.returns-in_err-headers-clause-serves
returns-in_err-headers-clause-serves g c =
    let p = err_from_is_err_and c.from_residual.result c.from_residual.ensures.1 in
    rw (p.1, p.2) (Err dav.Memory, not_begun refl refl refl, refl)

pub returns-clause-serves : goal.returns-clause-serves
returns-clause-serves g c =
    let request = c.args.request.now in
    let plan = propfind c.in_ok-headers.headers request.headers request.path c.args.body.now (caller_in c.args.self.now) in
    let told = rw c.at-caller.ensures at c.propfind.ensures in
    (told.0, carried g.L.DavLockSystem.locks _ _ plan c.as_ref.ensures.value (is_propfind _ c.in_ok-headers.ensures) told.1, told.2)
