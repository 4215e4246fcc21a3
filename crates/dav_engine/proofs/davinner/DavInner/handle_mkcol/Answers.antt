use Rattle.dav_engine.specs.OnHandler.{caller_in}
use Rattle.dav_engine.specs.Mkcol.{mkcol, is_mkcol}
use Rattle.dav_engine.proofs.GuardLemmas.{carried}
use Rattle.dav_engine.proofs.ModelLemmas.{follows_for}
use Rattle.dav_engine.proofs.davinner.DavInner.handle_mkcol.Goals as goal

pub returns-clause-serves : goal.returns-clause-serves
returns-clause-serves g c =
    let plan = mkcol c.in_ok-conditions.conditions c.args.request.now.path in
    carried g.L.DavLockSystem.locks _ _ (plan (caller_in c.args.self.now)) c.as_ref-ls.ensures.value (is_mkcol _ c.in_ok-conditions.ensures) (follows_for plan c.at-caller.ensures c.mkcol.ensures)
