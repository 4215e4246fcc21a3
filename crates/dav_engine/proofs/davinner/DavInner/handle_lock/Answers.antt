use Rattle.std.proofs.Common.{not, ap, ◌∙◌}
use Rattle.dav_engine.specs.OnHandler.{caller_in}
use Rattle.dav_engine.specs.Follows.{served}
use Rattle.dav_engine.specs.Lock.{lock, is_lock}
use Rattle.dav_engine.proofs.GrantFollows.{lock_nowhere, lock_by}
use Rattle.dav_engine.proofs.LookWorlds.{look_keeps_world}
use Rattle.dav_engine.proofs.UnlockLemmas.{lists}
use Rattle.dav_engine.proofs.davinner.DavInner.handle_lock.Goals as goal

pub returns-then-is_none-clause-serves : goal.returns-then-is_none-clause-serves
returns-then-is_none-clause-serves g c =
    let none = lists g.L.DavLockSystem.locks _ _ (c.is_none.ensures ∙ ap not c.if-is_none.true) in
    served (lock c.in_ok-headers.headers c.args.request.now.path c.args.body.now (caller_in c.args.self.now)) (is_lock c.in_ok-headers.headers c.in_ok-headers.ensures)
    (lock_nowhere c.in_ok-headers.headers c.args.request.now.path c.args.body.now (caller_in c.args.self.now) none)

pub returns-clause-serves : goal.returns-clause-serves
returns-clause-serves g c =
    let some = lists g.L.DavLockSystem.locks _ _ (c.is_none.ensures ∙ ap not c.if-is_none.false) in
    served (lock c.in_ok-headers.headers c.args.request.now.path c.args.body.now (caller_in c.args.self.now)) (is_lock c.in_ok-headers.headers c.in_ok-headers.ensures)
    (lock_by c.in_ok-headers.headers c.args.request.now.path c.args.body.now (caller_in c.args.self.now) c.metadata.result _ some c.metadata.ensures.asks (c.as_ref.ensures.value ∙ c.ok-found.ensures.value) c.lock_found.ensures.plan)

pub returns-clause-world : goal.returns-clause-world
returns-clause-world g c memory =
    c.lock_found.ensures.world memory ∙ look_keeps_world c.metadata.ensures.asks
