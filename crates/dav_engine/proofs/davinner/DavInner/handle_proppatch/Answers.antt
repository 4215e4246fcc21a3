use Rattle.dav_engine.specs.OnHandler.{caller_in}
use Rattle.dav_engine.specs.Proppatch.{proppatch, is_proppatch}
use Rattle.dav_engine.proofs.GuardLemmas.{carried}
use Rattle.dav_engine.proofs.ModelLemmas.{follows_for}
use Rattle.dav_engine.proofs.davinner.DavInner.handle_proppatch.Goals as goal

pub returns-clause-serves : goal.returns-clause-serves
returns-clause-serves g c =
    let plan = proppatch c.in_ok-conditions.conditions c.args.request.now.path c.args.body.now in
    carried g.L.DavLockSystem.locks _ _ (plan (caller_in c.args.self.now)) c.as_ref.ensures.value (is_proppatch _ c.in_ok-conditions.ensures) (follows_for plan c.at-caller.ensures c.proppatch.ensures)
