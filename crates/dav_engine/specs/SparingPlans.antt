-- The plans of requests that don't hold a lock spare what it covers (RFC 4918, section 7).
use Rattle.std.specs.Prelude.{◌≡◌, ◌≢◌, false, Some}
use Rattle.dav_core.specs.declared.method.DavMethod.{DavMethod}
use Rattle.dav_core.specs.Locks.{Lock, is_held}
use Rattle.dav_core.specs.Path.{PathText, names, star}
use Rattle.dav_engine.specs.declared.request.Body.{Body}
use Rattle.dav_engine.specs.Caller.{Caller, requester}
use Rattle.dav_engine.specs.Conditions.{Conditions, AreConditions, submitted}
use Rattle.dav_engine.specs.CopyMove.{IsCopyMove}
use Rattle.dav_engine.specs.Delete.{IsDelete}
use Rattle.dav_engine.specs.Guard.{IsGuard}
use Rattle.dav_engine.specs.Headers.{Headers}
use Rattle.dav_engine.specs.Lock.{IsLock}
use Rattle.dav_engine.specs.Method.{MethodPlan}
use Rattle.dav_engine.specs.Mkcol.{IsMkcol}
use Rattle.dav_engine.specs.Proppatch.{IsProppatch}
use Rattle.dav_engine.specs.Put.{IsPut}
use Rattle.dav_engine.specs.Reply.{Reply}
use Rattle.dav_engine.specs.Sparing.{SparesLock, SparesGuard}
use Rattle.dav_engine.specs.Unlock.{IsUnlock}
use Rattle.dav_engine.specs.WorldLaws.{IsReading}

-- A request with these headers, to a path, doesn't hold a lock: its If doesn't submit the lock's token, or its client isn't the
-- lock's principal (RFC 4918, sections 6.4 and 7.5).
abbrev pub IsStranger : Headers → PathText → Caller → Lock → Type 0
IsStranger headers p who h = (c : Conditions) → AreConditions headers p.prefix (names p) c → is_held (requester who (submitted c.lists)) h ≡ false

-- The plan spares what a lock covers: as long as the lock is in the list and, where it guards its folder, as long as it does.
abbrev pub SparesBoth : Lock → MethodPlan Reply → Type 0
SparesBoth h plan = SparesLock h plan × SparesGuard h plan

-- A plan that only reads spares what any lock covers.
abbrev pub ReadingSpares : Type 0
ReadingSpares = (h : Lock) (plan : MethodPlan Reply) → IsReading plan → SparesBoth h plan

-- A PUT or PATCH of a client that doesn't hold an exclusive lock spares what the lock covers (RFC 4918, section 7.5).
abbrev pub PutSpares : Type 0
PutSpares =
    (h : Lock) (m : DavMethod) (headers : Headers) (p : PathText) (body : Body) (who : Caller) (plan : MethodPlan Reply)
    → h.shared ≡ false → IsStranger headers p who h → IsPut m headers p body who plan → SparesBoth h plan

-- A MKCOL of a client that doesn't hold an exclusive lock spares what the lock covers (RFC 4918, section 7.5).
abbrev pub MkcolSpares : Type 0
MkcolSpares =
    (h : Lock) (headers : Headers) (p : PathText) (who : Caller) (plan : MethodPlan Reply)
    → h.shared ≡ false → IsStranger headers p who h → IsMkcol headers p who plan → SparesBoth h plan

-- A DELETE of a client that doesn't hold an exclusive lock spares what the lock covers (RFC 4918, section 7.5).
abbrev pub DeleteSpares : Type 0
DeleteSpares =
    (h : Lock) (headers : Headers) (p : PathText) (who : Caller) (plan : MethodPlan Reply)
    → h.shared ≡ false → p.bytes ≢ star → IsStranger headers p who h → IsDelete headers p who plan → SparesBoth h plan

-- A COPY or MOVE of a client that doesn't hold an exclusive lock spares what the lock covers (RFC 4918, section 7.5).
abbrev pub CopyMoveSpares : Type 0
CopyMoveSpares =
    (h : Lock) (m : DavMethod) (headers : Headers) (p : PathText) (who : Caller) (plan : MethodPlan Reply)
    → h.shared ≡ false → p.bytes ≢ star → IsStranger headers p who h → IsCopyMove m headers p who plan → SparesBoth h plan

-- A PROPPATCH of a client that doesn't hold an exclusive lock spares what the lock covers (RFC 4918, section 7.5).
abbrev pub ProppatchSpares : Type 0
ProppatchSpares =
    (h : Lock) (headers : Headers) (p : PathText) (content : Body) (who : Caller) (plan : MethodPlan Reply)
    → h.shared ≡ false → IsStranger headers p who h → IsProppatch headers p content who plan → SparesBoth h plan

-- An UNLOCK spares what any lock covers, whoever asks for it: with it the lock itself may end (RFC 4918, section 9.11).
abbrev pub UnlockSpares : Type 0
UnlockSpares = (h : Lock) (headers : Headers) (p : PathText) (who : Caller) (plan : MethodPlan Reply) → IsUnlock headers p who plan → SparesBoth h plan

-- A LOCK spares what an exclusive lock covers, whoever asks for it and whatever token it brings. Where the lock is of infinite
-- depth, too, and doesn't have the token that the LOCK brings, `SparesGuard` holds as well.
abbrev pub LockSpares : Type 0
LockSpares =
    (h : Lock) (headers : Headers) (p : PathText) (body : Body) (who : Caller) (plan : MethodPlan Reply)
    → h.shared ≡ false → IsLock headers p body who plan → SparesLock h plan × (IsGuard h → who.token ≢ Some h.token → SparesGuard h plan)
