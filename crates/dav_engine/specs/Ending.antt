-- Plans that keep a lock in the list of locks.
use Rattle.std.specs.Prelude.{◌≢◌, List, Some, Result}
use Rattle.dav_core.specs.declared.errors.FsError.{FsError}
use Rattle.dav_core.specs.declared.errors.DavError.{DavError}
use Rattle.dav_core.specs.declared.method.DavMethod.{DavMethod}
use Rattle.dav_core.specs.Asking.{Call, Answer, StoreState, Asks}
use Rattle.dav_core.specs.Locks.{Lock}
use Rattle.dav_core.specs.Path.{PathText}
use Rattle.dav_engine.specs.declared.request.Body.{Body}
use Rattle.dav_engine.specs.Caller.{Caller}
use Rattle.dav_engine.specs.CopyMove.{IsCopyMove}
use Rattle.dav_engine.specs.Delete.{IsDelete}
use Rattle.dav_engine.specs.Guard.{IsListed, Stands}
use Rattle.dav_engine.specs.Headers.{Headers}
use Rattle.dav_engine.specs.Lock.{IsLock}
use Rattle.dav_engine.specs.LockToken.{SaysLockToken}
use Rattle.dav_engine.specs.Method.{MethodPlan}
use Rattle.dav_engine.specs.Mkcol.{IsMkcol}
use Rattle.dav_engine.specs.Plan.{Plan, Done, Ask, Look, Keep, Locks, Ran, Cut}
use Rattle.dav_engine.specs.Proppatch.{IsProppatch}
use Rattle.dav_engine.specs.Put.{IsPut}
use Rattle.dav_engine.specs.Reply.{Reply}
use Rattle.dav_engine.specs.SparingPlans.{IsStranger}
use Rattle.dav_engine.specs.Unlock.{IsUnlock}
use Rattle.dav_engine.specs.WorldLaws.{IsReading}

-- Each list of locks that the plan sets has the lock h, as long as each list that it reads has it. A lock that is refreshed
-- counts as the same lock.
pub data KeepsLock (h : Lock) {A : Type 0} : Plan A → Type 0 where
  keeps_done : {a : A} → KeepsLock h (Done a)
  keeps_ask : {c : Call} {go : Result (Answer c) FsError → Plan A} → ((answer : Result (Answer c) FsError) → KeepsLock h (go answer)) → KeepsLock h (Ask c go)
  keeps_look : {go : Locks → Plan A} → ((ls : List Lock) → IsListed h ls → KeepsLock h (go (Some ls))) → KeepsLock h (Look go)
  keeps_list : {locks : List Lock} {rest : Plan A} → IsListed h locks → KeepsLock h rest → KeepsLock h (Keep locks rest)

-- A lock that a plan keeps is still in the list after it, whatever the store refuses.
abbrev pub KeptLocksStand : Type 0
KeptLocksStand =
    (h : Lock) (plan : MethodPlan Reply) (old new : StoreState) (ls ms : Locks) (a : Result Reply DavError)
    → KeepsLock h plan → Ran Asks plan old ls a new ms → Stands h ls → Stands h ms

-- A lock that a plan keeps is still in the list also where memory runs out in the plan.
abbrev pub KeptLocksStandCut : Type 0
KeptLocksStandCut =
    (h : Lock) (plan : MethodPlan Reply) (old new : StoreState) (ls ms : Locks)
    → KeepsLock h plan → Cut Asks ls plan old ls new ms → Stands h ls → Stands h ms

-- A plan that only reads keeps every lock.
abbrev pub ReadingKeepsLocks : Type 0
ReadingKeepsLocks = (h : Lock) (plan : MethodPlan Reply) → IsReading plan → KeepsLock h plan

-- A PUT or PATCH keeps each lock, whoever asks for it.
abbrev pub PutKeepsLocks : Type 0
PutKeepsLocks =
    (h : Lock) (m : DavMethod) (headers : Headers) (p : PathText) (body : Body) (who : Caller) (plan : MethodPlan Reply)
    → IsPut m headers p body who plan → KeepsLock h plan

-- A DELETE keeps each lock that its client doesn't hold (RFC 4918, section 9.6).
abbrev pub DeleteKeepsLocks : Type 0
DeleteKeepsLocks =
    (h : Lock) (headers : Headers) (p : PathText) (who : Caller) (plan : MethodPlan Reply)
    → IsStranger headers p who h → IsDelete headers p who plan → KeepsLock h plan

-- A COPY or MOVE keeps each lock that its client doesn't hold.
abbrev pub CopyMoveKeepsLocks : Type 0
CopyMoveKeepsLocks =
    (h : Lock) (m : DavMethod) (headers : Headers) (p : PathText) (who : Caller) (plan : MethodPlan Reply)
    → IsStranger headers p who h → IsCopyMove m headers p who plan → KeepsLock h plan

-- A MKCOL keeps each lock.
abbrev pub MkcolKeepsLocks : Type 0
MkcolKeepsLocks =
    (h : Lock) (headers : Headers) (p : PathText) (who : Caller) (plan : MethodPlan Reply)
    → IsMkcol headers p who plan → KeepsLock h plan

-- A PROPPATCH keeps each lock.
abbrev pub ProppatchKeepsLocks : Type 0
ProppatchKeepsLocks =
    (h : Lock) (headers : Headers) (p : PathText) (content : Body) (who : Caller) (plan : MethodPlan Reply)
    → IsProppatch headers p content who plan → KeepsLock h plan

-- An UNLOCK keeps each lock but the one whose token its Lock-Token has (RFC 4918, section 9.11).
abbrev pub UnlockKeepsLocks : Type 0
UnlockKeepsLocks =
    (h : Lock) (headers : Headers) (p : PathText) (who : Caller) (plan : MethodPlan Reply)
    → ¬ SaysLockToken headers h.token → IsUnlock headers p who plan → KeepsLock h plan

-- a LOCK keeps each lock, unless the token for the lock that it creates is that lock's (RFC 4918, section 9.10)
abbrev pub LockKeepsLocks : Type 0
LockKeepsLocks =
    (h : Lock) (headers : Headers) (p : PathText) (body : Body) (who : Caller) (plan : MethodPlan Reply)
    → who.token ≢ Some h.token → IsLock headers p body who plan → KeepsLock h plan
