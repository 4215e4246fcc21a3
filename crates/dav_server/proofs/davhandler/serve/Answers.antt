use Rattle.std.proofs.Common.{ap, subst}
use Rattle.dav_engine.specs.OnHandler.{PutOf, MkcolOf, DeleteOf, CopyMoveOf, OptionsOf, ProppatchOf, LockOf, UnlockOf}
use Rattle.dav_engine.specs.CopyMove.{IsCopyMove}
use Rattle.dav_engine.specs.Put.{IsPut}
use Rattle.dav_server.specs.Get.{IsGet, GetOf}
use Rattle.dav_server.specs.Machine.{caller, gets, heads, puts, patches, makes, deletes, copies, moves, sets_properties, locks, releases}
use Rattle.dav_server.proofs.MethodLemmas.{offered_plan}
use Rattle.dav_server.proofs.StepLemmas.{asked_at, serves_as, serves_asked, serves_by, serves_held, serves_lent, serves_set, plan_at}
use Rattle.dav_server.proofs.UngrantedLemmas.{same_held}
use Rattle.dav_server.proofs.davhandler.serve.Goals as goal

pub returns-in-Get-clause-serves : goal.returns-in-Get-clause-serves
returns-in-Get-clause-serves g c =
    serves_as (λ plan is. plan_at c.in-Get.is (gets (subst (λ m. IsGet m c.args.request.now.headers c.args.request.now.path c.args.exchange.now.moment plan) c.in-Get.is is)))
    (serves_asked (λ x. GetOf c.args.request.now x.moment) c.exchange.view_is (serves_held c.handler.view_is (serves_lent g.L.DavLockSystem.locks _ c.as_ref.ensures.value c.handle_gethead.ensures)))

pub returns-in-Head-clause-serves : goal.returns-in-Head-clause-serves
returns-in-Head-clause-serves g c =
    serves_as (λ plan is. plan_at c.in-Head.is (heads (subst (λ m. IsGet m c.args.request.now.headers c.args.request.now.path c.args.exchange.now.moment plan) c.in-Head.is is)))
    (serves_asked (λ x. GetOf c.args.request.now x.moment) c.exchange.view_is (serves_held c.handler.view_is (serves_lent g.L.DavLockSystem.locks _ c.as_ref-in-Head.ensures.value c.handle_gethead-in-Head.ensures)))

pub returns-in-Put-clause-serves : goal.returns-in-Put-clause-serves
returns-in-Put-clause-serves g c =
    serves_as (λ plan is. plan_at c.in-Put.is (puts (subst (λ m. IsPut m c.args.request.now.headers c.args.request.now.path c.args.body.now (caller c.args.exchange.now) plan) c.in-Put.is is)))
    (serves_held c.handler.view_is (serves_by (ap (PutOf c.args.request.now c.args.body.now) (asked_at c.exchange.view_is c.asker_of.ensures)) c.handle_put.ensures.serves))

pub returns-in-Patch-clause-serves : goal.returns-in-Patch-clause-serves
returns-in-Patch-clause-serves g c =
    serves_as (λ plan is. plan_at c.in-Patch.is (patches (subst (λ m. IsPut m c.args.request.now.headers c.args.request.now.path c.args.body.now (caller c.args.exchange.now) plan) c.in-Patch.is is)))
    (serves_held c.handler.view_is (serves_by (ap (PutOf c.args.request.now c.args.body.now) (asked_at c.exchange.view_is c.asker_of.ensures)) c.handle_put-in-Patch.ensures.serves))

pub returns-in-MkCol-clause-serves : goal.returns-in-MkCol-clause-serves
returns-in-MkCol-clause-serves g c =
    serves_as (λ plan is. plan_at c.in-MkCol.is (makes is))
    (serves_held c.handler.view_is (serves_by (ap (MkcolOf c.args.request.now) (asked_at c.exchange.view_is c.asker_of.ensures)) c.handle_mkcol.ensures.serves))

pub returns-in-Delete-clause-serves : goal.returns-in-Delete-clause-serves
returns-in-Delete-clause-serves g c =
    serves_as (λ plan is. plan_at c.in-Delete.is (deletes is))
    (serves_held c.handler.view_is (serves_by (ap (DeleteOf c.args.request.now) (asked_at c.exchange.view_is c.asker_of.ensures)) c.handle_delete.ensures.serves))

pub returns-in-Copy-clause-serves : goal.returns-in-Copy-clause-serves
returns-in-Copy-clause-serves g c =
    serves_as (λ plan is. plan_at c.in-Copy.is (copies (subst (λ m. IsCopyMove m c.args.request.now.headers c.args.request.now.path (caller c.args.exchange.now) plan) c.in-Copy.is is)))
    (serves_held c.handler.view_is (serves_by (ap (CopyMoveOf c.args.request.now) (asked_at c.exchange.view_is c.asker_of.ensures)) c.handle_copymove.ensures.serves))

pub returns-in-Move-clause-serves : goal.returns-in-Move-clause-serves
returns-in-Move-clause-serves g c =
    serves_as (λ plan is. plan_at c.in-Move.is (moves (subst (λ m. IsCopyMove m c.args.request.now.headers c.args.request.now.path (caller c.args.exchange.now) plan) c.in-Move.is is)))
    (serves_held c.handler.view_is (serves_by (ap (CopyMoveOf c.args.request.now) (asked_at c.exchange.view_is c.asker_of.ensures)) c.handle_copymove-in-Move.ensures.serves))

pub returns-in-Options-clause-serves : goal.returns-in-Options-clause-serves
returns-in-Options-clause-serves g c =
    serves_as (λ plan is. plan_at c.in-Options.is (offered_plan is))
    (serves_set (λ s. OptionsOf s.allowed c.args.request.now (caller c.args.exchange.now)) c.handler.view_is c.handle_options.ensures.serves)

pub returns-in-PropPatch-clause-serves : goal.returns-in-PropPatch-clause-serves
returns-in-PropPatch-clause-serves g c =
    serves_as (λ plan is. plan_at c.in-PropPatch.is (sets_properties is))
    (serves_held c.handler.view_is (serves_by (ap (ProppatchOf c.args.request.now c.args.body.now) (asked_at c.exchange.view_is c.asker_of.ensures)) c.handle_proppatch.ensures.serves))

pub returns-in-Lock-clause-serves : goal.returns-in-Lock-clause-serves
returns-in-Lock-clause-serves g c =
    serves_as (λ plan is. plan_at c.in-Lock.is (locks is))
    (serves_held c.handler.view_is (serves_by (ap (LockOf c.args.request.now c.args.body.now) (asked_at c.exchange.view_is c.asker_of.ensures)) c.handle_lock.ensures.serves))

pub returns-in-Unlock-clause-serves : goal.returns-in-Unlock-clause-serves
returns-in-Unlock-clause-serves g c =
    serves_as (λ plan is. plan_at c.in-Unlock.is (releases is))
    (serves_held c.handler.view_is (serves_by (ap (UnlockOf c.args.request.now) (asked_at c.exchange.view_is c.asker_of.ensures)) c.handle_unlock.ensures.serves))

pub returns-in-Lock-clause-ungranted : goal.returns-in-Lock-clause-ungranted
returns-in-Lock-clause-ungranted g c = λ memory lock there.
    let kept = c.handle_lock.ensures.memory memory there in
    same_held c.handler.view_is (c.handle_lock.ensures.world memory, kept.locks)
