-- Laws of UNLOCK (RFC 4918, section 9.11).
use Rattle.std.specs.Prelude.{◌≡◌, ℕ, List, Some, Ok, Err}
use Rattle.dav_core.specs.declared.errors.DavError.{DavError}
use Rattle.dav_core.specs.Asking.{StoreState, Asks}
use Rattle.dav_core.specs.Locks.{Lock, unlocked}
use Rattle.dav_core.specs.Path.{PathText, names}
use Rattle.dav_engine.specs.Caller.{Caller}
use Rattle.dav_engine.specs.Headers.{Headers}
use Rattle.dav_engine.specs.LockToken.{SaysLockToken}
use Rattle.dav_engine.specs.Method.{MethodPlan}
use Rattle.dav_engine.specs.Plan.{Locks, Ran}
use Rattle.dav_engine.specs.Reply.{Reply}
use Rattle.dav_engine.specs.Unlock.{IsUnlock}

-- A list of locks before and after: it lost the lock that the token in Lock-Token and the path name (RFC 4918, section 9.11).
pub record EndsLock (headers : Headers) (p : PathText) (ls ms : Locks) : Type 0 where
  pub token : List ℕ
  pub before : List Lock
  pub after : List Lock
  pub said : SaysLockToken headers token
  pub was : ls ≡ Some before
  pub ended : unlocked token (names p) before ≡ Some after
  pub is : ms ≡ Some after

-- An UNLOCK that succeeds ends a lock as `EndsLock` says, and leaves the world, whatever the store refuses (RFC 4918, section 9.11).
abbrev pub UnlockEndsLock : Type 0
UnlockEndsLock =
    (headers : Headers) (p : PathText) (who : Caller) (plan : MethodPlan Reply) (old new : StoreState) (ls ms : Locks) (r : Reply)
    → IsUnlock headers p who plan → Ran Asks plan old ls (Ok r) new ms → (new.world ≡ old.world) × EndsLock headers p ls ms

-- An UNLOCK that ends in an error leaves the world and the list of locks (RFC 4918, section 9.11).
abbrev pub RefusedUnlockLeavesAll : Type 0
RefusedUnlockLeavesAll =
    (headers : Headers) (p : PathText) (who : Caller) (plan : MethodPlan Reply) (old new : StoreState) (ls ms : Locks) (e : DavError)
    → IsUnlock headers p who plan → Ran Asks plan old ls (Err e) new ms → (new.world ≡ old.world) × (ms ≡ ls)
