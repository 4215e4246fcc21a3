-- What requests leave as it was: those that read, those that only create, those that are refused, and those that end in an error
-- (RFC 9110, sections 9.2.1, 13.1.2 and 13.2.1; RFC 4918, sections 7 and 9.1).
use Rattle.std.specs.Prelude.{◌≡◌, ◌≢◌, ◌≤◌, ◌⊎◌, ◌==◌, ◌||◌, ℕ, Bool, true, false, not, [], All, Some, None, Ok, Err}
use Rattle.dav_core.specs.declared.errors.DavError.{DavError}
use Rattle.dav_core.specs.declared.errors.DavError.TheVariants as dav
use Rattle.dav_core.specs.declared.errors.FsError.{FsError}
use Rattle.dav_core.specs.declared.method.DavMethod.{DavMethod}
use Rattle.dav_core.specs.declared.method.DavMethod.TheVariants.{Put, Patch, Lock as LockMethod}
use Rattle.dav_core.specs.Asking.{StoreState, Asks}
use Rattle.dav_core.specs.Path.{PathText, names}
use Rattle.dav_core.specs.World.{Node, node_at, IsWorld, last_moment}
use Rattle.dav_engine.specs.declared.request.Body.TheVariants as body
use Rattle.dav_engine.specs.Method.{MethodPlan}
use Rattle.dav_engine.specs.Plan.{Locks, Ran, ServerState}
use Rattle.dav_engine.specs.Put.{unsatisfiable}
use Rattle.dav_engine.specs.RefusedCalls.{CallKind, RanRefused, opens_file, seeks_place, uses_file}
use Rattle.dav_engine.specs.Reply.{Reply}
use Rattle.dav_server.specs.Machine.{Exchange, Settings, Means, Steps, StepRefused, body_for, taken_by}
use Rattle.dav_server.specs.TagLaws.{HasMethod, is_safe}
use Rattle.dav_server.specs.UpdateLaws.{IsSuccess}
use Rattle.dav_server.specs.WriteLaws.{IsCreateOnly, IsRefusedStatus, IsLockRequest, HandsInUnused, WantsNothingThere}

-- the request has a head with one of the methods GET, HEAD, OPTIONS and PROPFIND (RFC 9110, section 9.2.1; RFC 4918, section 9.1)
abbrev pub IsSafeRequest : Exchange → Type 0
IsSafeRequest x = (m : DavMethod) × HasMethod m x × (is_safe m ≡ true)

-- A PUT or PATCH with If-None-Match `*` at a path where something is isn't answered with success (RFC 9110, section 13.1.2).
abbrev pub CreateOnlyFails : Type 0
CreateOnlyFails =
    (s : Settings) (x : Exchange) (p : PathText) (n : Node) (old new : StoreState) (ls ms : Locks) (reply : Reply)
    → IsCreateOnly s x p → node_at old.world (names p) ≡ Some n → Steps s x old ls reply new ms → ¬ IsSuccess reply.status

-- the request is a PUT or PATCH
abbrev pub IsWriteRequest : Exchange → Type 0
IsWriteRequest x = HasMethod Put x ⊎ HasMethod Patch x

-- an error in which a PUT or PATCH can end after it opened its file: one of the store, or 416 where the store refused to seek
abbrev pub IsStoresError : DavError → Type 0
IsStoresError e = ((refusal : FsError) × (e ≡ dav.FsError refusal)) ⊎ (e ≡ unsatisfiable)

-- An error in which a LOCK can end because the store refused to create its empty file: one of the store; 409; or 412, where its
-- If-None-Match is `*` (RFC 4918, section 9.10.4).
abbrev pub IsFileError : Exchange → DavError → Type 0
IsFileError x e = ((refusal : FsError) × (e ≡ dav.FsError refusal)) ⊎ (e ≡ dav.Status 409) ⊎ ((e ≡ dav.Status 412) × WantsNothingThere x)

-- A request whose plan ends in an error leaves the world and the list of locks as they were, whatever its method is and whatever the
-- store refuses; with two exceptions. A PUT or PATCH that ends in an error (`IsStoresError`) as the store refuses a call on the file that it
-- opened may have changed the world: so a 416 is none where no seek was refused. And a LOCK that hands in a token that a lock of the list
-- has, and ends in an error (`IsFileError`) as the store refuses its file, may have changed the list: it takes the lock of that token back.
abbrev pub ErrorsLeave : Type 0
ErrorsLeave =
    (s : Settings) (x : Exchange) (plan : MethodPlan Reply) (old new : StoreState) (ls ms : Locks) (e : DavError)
    → (IsWriteRequest x → (¬ IsStoresError e) ⊎ (¬ RanRefused uses_file plan old ls (Err e) new ms)) → Means s x plan → Ran Asks plan old ls (Err e) new ms
    → (new.world ≡ old.world)
    × ((IsLockRequest x → HandsInUnused x ls ⊎ (¬ IsFileError x e) ⊎ (¬ RanRefused opens_file plan old ls (Err e) new ms)) → ms ≡ ls)

-- ---- by its method and reply

-- The reply is that to an error which ended the request (RFC 9110, sections 15.5 and 15.6): it has a header, which says that no bytes follow
-- (`error_reply`). A DELETE, COPY or MOVE that was carried out in part, and reports its own path alone, is answered with a status and
-- nothing else (`status_reply`; RFC 4918, section 13).
abbrev pub IsErrorReply : Reply → Type 0
IsErrorReply reply = (400 ≤ reply.status) × (reply.headers ≢ [])

-- Whether an error that ends this method with this status may come after something was changed. A PUT or PATCH ends in 404, 413 or 500 where
-- the store refuses a call on the file that it opened. A LOCK may have taken a lock back, but with 400, 415 and 423 (RFC 4918, section
-- 9.10.4).
abbrev pub may_come_late : DavMethod → ℕ → Bool
may_come_late Put status = (status == 404) || (status == 413) || (status == 500)
may_come_late Patch status = (status == 404) || (status == 413) || (status == 500)
may_come_late LockMethod status = not ((status == 400) || (status == 415) || (status == 423))
may_come_late m status = false

-- The reply is that to an error, and to none that may come after this method changed something.
abbrev pub IsEarlyError : DavMethod → Reply → Type 0
IsEarlyError m reply = IsErrorReply reply × (may_come_late m reply.status ≡ false)

-- A request with this method that is answered so leaves the world and the list of locks as they were, in a store of which
-- no refusal is left to come, and that doesn't run out of memory (RFC 9110, sections 15.5 and 15.6).
abbrev pub EarlyErrorsLeave : Type 0
EarlyErrorsLeave =
    (s : Settings) (x : Exchange) (m : DavMethod) (old new : StoreState) (ls ms : Locks) (reply : Reply)
    → IsWorld old.world → x.moment ≤ last_moment → All (λ e. e ≡ None) old.refusals → new.short ≡ false
    → HasMethod m x → IsEarlyError m reply → Steps s x old ls reply new ms → (new.world ≡ old.world) × (ms ≡ ls)

-- ---- of one request

-- the world and the list of locks are the same before and after
abbrev pub SameContent : ServerState → ServerState → Type 0
SameContent was now = (now.store.world ≡ was.store.world) × (now.locks ≡ was.locks)

-- a request of a safe method leaves the world and the list of locks as they were (RFC 9110, section 9.2.1)
abbrev pub SafeLeaves : Exchange → ServerState → ServerState → Type 0
SafeLeaves x was now = IsSafeRequest x → SameContent was now

-- A PUT or PATCH with If-None-Match `*`, where something is at its path, leaves the world and the list of locks as they were, and isn't
-- answered with success (RFC 9110, section 13.1.2).
abbrev pub CreateOnlyLeaves : Settings → Exchange → Reply → ServerState → ServerState → Type 0
CreateOnlyLeaves s x reply was now =
    (p : PathText) (n : Node)
    → IsCreateOnly s x p → node_at was.store.world (names p) ≡ Some n → SameContent was now × ¬ IsSuccess reply.status

-- a call of this kind was refused while the request was answered
abbrev pub WasRefused : CallKind → Settings → Exchange → ServerState → Reply → ServerState → Type 0
WasRefused kind s x was reply now = StepRefused kind s x was.store was.locks reply now.store now.locks

-- Why a LOCK that is answered 412 leaves the list of locks: no lock of the list has the token that it hands in; or its If-None-Match isn't
-- `*`, so that a condition failed; or the store didn't refuse its empty file (RFC 4918, section 9.10).
abbrev pub TakesNothingBack : Settings → Exchange → ServerState → Reply → ServerState → Type 0
TakesNothingBack s x was reply now = HandsInUnused x was.locks ⊎ (¬ WantsNothingThere x) ⊎ (¬ WasRefused opens_file s x was reply now)

-- A request that is answered 412, 416 or 423 leaves the world as it was, and the list of locks. Of the list this isn't said of a LOCK with
-- If-None-Match `*` that is answered 412 as the store refuses its empty file, and hands in a token that a lock of the list has. And it
-- isn't said of a PUT or PATCH that is answered 416 as the store refuses to seek (RFC 9110, sections 13.2.1 and 15.5.17; RFC 4918, section
-- 11.3).
pub record RefusedStatusLeaves (s : Settings) (x : Exchange) (reply : Reply) (was now : ServerState) : Type 0 where
  pub world : IsRefusedStatus reply.status → now.store.world ≡ was.store.world
  pub locks : IsRefusedStatus reply.status → (reply.status ≡ 412 → IsLockRequest x → TakesNothingBack s x was reply now) → now.locks ≡ was.locks
  pub range : reply.status ≡ 416 → SameContent was now ⊎ (IsWriteRequest x × WasRefused seeks_place s x was reply now)

-- Each step leaves what a request leaves that is answered 412, 416 or 423, whatever its method is and whatever the store refuses (RFC 9110,
-- sections 13.2.1 and 15.5.17; RFC 4918, section 11.3).
abbrev pub RefusedLeaves : Type 0
RefusedLeaves =
    (s : Settings) (x : Exchange) (was now : ServerState) (reply : Reply)
    → Steps s x was.store was.locks reply now.store now.locks → RefusedStatusLeaves s x reply was now

-- the request has a body, where one of no bytes counts as none: a LOCK with a body asks for a new lock, one without refreshes a lock (RFC
-- 4918, sections 9.10.1 and 9.10.2)
abbrev pub HasLockBody : Exchange → Type 0
HasLockBody x = body_for (taken_by LockMethod) x.body ≢ Ok body.None

-- the request is a LOCK for a new lock (RFC 4918, section 9.10.1)
abbrev pub AsksForLock : Exchange → Type 0
AsksForLock x = IsLockRequest x × HasLockBody x

-- a LOCK for a new lock leaves the world and the list of locks as they were, where no lock of the list has the token that it hands in
abbrev pub GrantsNothing : Exchange → ServerState → ServerState → Type 0
GrantsNothing x was now = AsksForLock x → HandsInUnused x was.locks → SameContent was now
