-- What a request changes is at the path that its target names or below it, or, for COPY and MOVE, at the one that Destination names or
-- below it: its plan spares all other paths, whoever asks for it and whatever is locked (RFC 4918, sections 9.1 to 9.11).
use Rattle.std.specs.Prelude.{◌≡◌, ◌≢◌, true, false, Bool, List, codes, Some, None, Ok, Result}
use Rattle.http_header.specs.HeaderMap.{get_all}
use Rattle.dav_core.specs.declared.errors.DavError.{DavError}
use Rattle.dav_core.specs.declared.method.DavMethod.{DavMethod}
use Rattle.dav_core.specs.declared.method.DavMethod.TheVariants.{Move}
use Rattle.dav_core.specs.Asking.{StoreState, Asks}
use Rattle.dav_core.specs.Locks.{Lock}
use Rattle.dav_core.specs.Path.{Path, PathText, names, star, is_at_or_under}
use Rattle.dav_core.specs.World.{IsWorld}
use Rattle.dav_engine.specs.declared.request.Body.{Body}
use Rattle.dav_engine.specs.Caller.{Caller}
use Rattle.dav_engine.specs.CopyMove.{DestinationNames, IsCopyMove}
use Rattle.dav_engine.specs.Delete.{IsDelete}
use Rattle.dav_engine.specs.Ending.{KeepsLock}
use Rattle.dav_engine.specs.Guard.{folder_of, OnList}
use Rattle.dav_engine.specs.Headers.{Headers}
use Rattle.dav_engine.specs.Lock.{IsLock}
use Rattle.dav_engine.specs.LockToken.{SaysLockToken}
use Rattle.dav_engine.specs.Method.{MethodPlan}
use Rattle.dav_engine.specs.Mkcol.{IsMkcol}
use Rattle.dav_engine.specs.Plan.{Locks, Ran, Cut}
use Rattle.dav_engine.specs.Proppatch.{IsProppatch}
use Rattle.dav_engine.specs.Put.{IsPut}
use Rattle.dav_engine.specs.Reply.{Reply}
use Rattle.dav_engine.specs.Sparing.{NoneUnder, Sparing, Anything, AnyList, Spared}
use Rattle.dav_engine.specs.Unlock.{IsUnlock}
use Rattle.dav_engine.specs.WorldLaws.{IsReading, IsProperPlan}

-- The plan spares these paths: whatever the store answers and whatever is locked, each of its changes leaves the content there, and takes
-- away no folder above them.
abbrev pub SparesPaths : (Path → Bool) → MethodPlan Reply → Type 0
SparesPaths covered plan = Sparing covered AnyList AnyList true Anything None plan

-- A plan that spares paths leaves their content, whatever the store refuses and whatever is locked; and there still is a list of locks.
abbrev pub SparedPathsStay : Type 0
SparedPathsStay =
    (covered : Path → Bool) (plan : MethodPlan Reply) (old new : StoreState) (ls : List Lock) (ms : Locks) (a : Result Reply DavError)
    → SparesPaths covered plan → IsProperPlan plan → Ran Asks plan old (Some ls) a new ms → IsWorld old.world
    → Spared covered old.world new.world × OnList AnyList ms

-- A plan that spares paths leaves their content also where memory runs out in the plan.
abbrev pub SparedPathsStayCut : Type 0
SparedPathsStayCut =
    (covered : Path → Bool) (plan : MethodPlan Reply) (old new : StoreState) (ls : List Lock) (ms : Locks)
    → SparesPaths covered plan → IsProperPlan plan → Cut Asks (Some ls) plan old (Some ls) new ms → IsWorld old.world
    → Spared covered old.world new.world

-- A plan that only reads spares any paths.
abbrev pub ReadingSparesPaths : Type 0
ReadingSparesPaths = (covered : Path → Bool) (plan : MethodPlan Reply) → IsReading plan → SparesPaths covered plan

-- A PUT or PATCH changes what is at its target alone.
abbrev pub PutSparesOthers : Type 0
PutSparesOthers =
    (covered : Path → Bool) (m : DavMethod) (headers : Headers) (p : PathText) (body : Body) (who : Caller) (plan : MethodPlan Reply)
    → covered (names p) ≡ false → IsPut m headers p body who plan → SparesPaths covered plan

-- A MKCOL changes what is at its target alone.
abbrev pub MkcolSparesOthers : Type 0
MkcolSparesOthers =
    (covered : Path → Bool) (headers : Headers) (p : PathText) (who : Caller) (plan : MethodPlan Reply)
    → covered (names p) ≡ false → IsMkcol headers p who plan → SparesPaths covered plan

-- A PROPPATCH changes what is at its target alone.
abbrev pub ProppatchSparesOthers : Type 0
ProppatchSparesOthers =
    (covered : Path → Bool) (headers : Headers) (p : PathText) (content : Body) (who : Caller) (plan : MethodPlan Reply)
    → p.bytes ≢ star → covered (names p) ≡ false → IsProppatch headers p content who plan → SparesPaths covered plan

-- A LOCK changes what is at its target alone.
abbrev pub LockSparesOthers : Type 0
LockSparesOthers =
    (covered : Path → Bool) (headers : Headers) (p : PathText) (content : Body) (who : Caller) (plan : MethodPlan Reply)
    → p.bytes ≢ star → covered (names p) ≡ false → IsLock headers p content who plan → SparesPaths covered plan

-- An UNLOCK changes no content.
abbrev pub UnlockSparesPaths : Type 0
UnlockSparesPaths =
    (covered : Path → Bool) (headers : Headers) (p : PathText) (who : Caller) (plan : MethodPlan Reply)
    → IsUnlock headers p who plan → SparesPaths covered plan

-- A DELETE changes what is at its target or below it alone.
abbrev pub DeleteSparesOthers : Type 0
DeleteSparesOthers =
    (covered : Path → Bool) (headers : Headers) (p : PathText) (who : Caller) (plan : MethodPlan Reply)
    → p.bytes ≢ star → NoneUnder covered (names p) → IsDelete headers p who plan → SparesPaths covered plan

-- A COPY changes what is at its destination or below it alone; a MOVE what is at its target or below that, too.
abbrev pub CopyMoveSparesOthers : Type 0
CopyMoveSparesOthers =
    (covered : Path → Bool) (m : DavMethod) (headers : Headers) (p : PathText) (who : Caller) (plan : MethodPlan Reply)
    → p.bytes ≢ star → (m ≡ Move → NoneUnder covered (names p))
    → ((d : PathText) → DestinationNames p.prefix (get_all headers (codes "destination")) (Ok d) → NoneUnder covered (names d))
    → IsCopyMove m headers p who plan → SparesPaths covered plan

-- The lock's path is neither this path nor below it.
abbrev pub IsLockedElsewhere : Lock → PathText → Type 0
IsLockedElsewhere h p = is_at_or_under (folder_of h) (names p) ≡ false

-- A DELETE keeps each lock whose path is elsewhere than at its target or below it.
abbrev pub DeleteKeepsOtherLocks : Type 0
DeleteKeepsOtherLocks =
    (h : Lock) (headers : Headers) (p : PathText) (who : Caller) (plan : MethodPlan Reply)
    → p.bytes ≢ star → IsLockedElsewhere h p → IsDelete headers p who plan → KeepsLock h plan

-- A COPY keeps each lock whose path is elsewhere than at its destination or below it; a MOVE each that isn't at its target or below that
-- either.
abbrev pub CopyMoveKeepsOtherLocks : Type 0
CopyMoveKeepsOtherLocks =
    (h : Lock) (m : DavMethod) (headers : Headers) (p : PathText) (who : Caller) (plan : MethodPlan Reply)
    → p.bytes ≢ star → (m ≡ Move → IsLockedElsewhere h p)
    → ((d : PathText) → DestinationNames p.prefix (get_all headers (codes "destination")) (Ok d) → IsLockedElsewhere h d)
    → IsCopyMove m headers p who plan → KeepsLock h plan

-- An UNLOCK keeps each lock but the one that it names: with its Lock-Token's token, at its target or above it (RFC 4918, section 9.11).
abbrev pub UnlockKeepsOtherLocks : Type 0
UnlockKeepsOtherLocks =
    (h : Lock) (headers : Headers) (p : PathText) (who : Caller) (plan : MethodPlan Reply)
    → (SaysLockToken headers h.token → is_at_or_under (names p) (folder_of h) ≡ false) → IsUnlock headers p who plan → KeepsLock h plan
