-- The plans of a lock's holder are isolated: what they do and answer doesn't depend on what is outside the lock's folder.
use Rattle.std.specs.Prelude.{◌≡◌, ◌≢◌, ℕ, [], true, List, codes, None, Ok}
use Rattle.http_header.specs.HeaderMap.{get_all}
use Rattle.dav_core.specs.declared.method.DavMethod.{DavMethod}
use Rattle.dav_core.specs.declared.method.DavMethod.TheVariants.{Move}
use Rattle.dav_core.specs.Locks.{Lock}
use Rattle.dav_core.specs.Path.{PathText, names, star}
use Rattle.dav_engine.specs.declared.request.Body.{Body}
use Rattle.dav_engine.specs.Alongside.{Alongside, SameAnswers}
use Rattle.dav_engine.specs.Caller.{Caller}
use Rattle.dav_engine.specs.Conditions.{Addressed, SaysLists}
use Rattle.dav_engine.specs.CopyMove.{DestinationNames, IsCopyMove}
use Rattle.dav_engine.specs.Delete.{IsDelete}
use Rattle.dav_engine.specs.Guard.{IsGuard, IsInReach, IsInside, SubmitOnly}
use Rattle.dav_engine.specs.Headers.{Headers}
use Rattle.dav_engine.specs.Lock.{is_absent, IsLock}
use Rattle.dav_engine.specs.LockToken.{SaysLockToken}
use Rattle.dav_engine.specs.Method.{MethodPlan}
use Rattle.dav_engine.specs.Mkcol.{IsMkcol}
use Rattle.dav_engine.specs.Options.{options}
use Rattle.dav_engine.specs.Propfind.{IsPropfind}
use Rattle.dav_engine.specs.Proppatch.{IsProppatch}
use Rattle.dav_engine.specs.Put.{IsPut}
use Rattle.dav_engine.specs.Reply.{Reply}
use Rattle.dav_engine.specs.Unlock.{IsUnlock}

-- The If header of a request to a path submits the lock's token alone, and the request has neither If-Match nor If-None-Match
-- (RFC 4918, section 10.4; RFC 9110, section 13.1).
pub record SubmitsAlone (headers : Headers) (p : PathText) (h : Lock) : Type 0 where
  pub lists : List Addressed
  pub only : SubmitOnly h lists
  pub says : SaysLists p.prefix (names p) (get_all headers (codes "if")) lists
  pub match : get_all headers (codes "if-match") ≡ []
  pub none_match : get_all headers (codes "if-none-match") ≡ []

-- A plan is isolated in the folder that h guards: from any two worlds with the same content there it makes the same calls in
-- the folder, and gives the same reply but for change numbers and times.
abbrev pub IsIsolatedPlan : Lock → MethodPlan Reply → Type 0
IsIsolatedPlan h plan = Alongside h true (λ file. SameAnswers) None plan plan

-- A PUT or PATCH strictly below a guarded folder, whose If submits the guard's token alone, is isolated.
abbrev pub PutIsIsolated : Type 0
PutIsIsolated =
    (h : Lock) (m : DavMethod) (headers : Headers) (p : PathText) (body : Body) (who : Caller) (plan : MethodPlan Reply)
    → IsGuard h → IsInside h (names p) → SubmitsAlone headers p h → IsPut m headers p body who plan → IsIsolatedPlan h plan

-- A MKCOL strictly below a guarded folder, whose If submits the guard's token alone, is isolated.
abbrev pub MkcolIsIsolated : Type 0
MkcolIsIsolated =
    (h : Lock) (headers : Headers) (p : PathText) (who : Caller) (plan : MethodPlan Reply)
    → IsGuard h → IsInside h (names p) → SubmitsAlone headers p h → IsMkcol headers p who plan → IsIsolatedPlan h plan

-- A DELETE strictly below a guarded folder, whose If submits the guard's token alone, is isolated.
abbrev pub DeleteIsIsolated : Type 0
DeleteIsIsolated =
    (h : Lock) (headers : Headers) (p : PathText) (who : Caller) (plan : MethodPlan Reply)
    → IsGuard h → p.bytes ≢ star → IsInside h (names p) → SubmitsAlone headers p h → IsDelete headers p who plan → IsIsolatedPlan h plan

-- An OPTIONS at a guarded folder or below it is isolated, whoever asks for it.
abbrev pub OptionsIsIsolated : Type 0
OptionsIsIsolated = (h : Lock) (allowed : ℕ) (p : PathText) → IsInReach h (names p) → IsIsolatedPlan h (options allowed p)

-- A PROPFIND at a guarded folder or below it is isolated, whoever asks for it: its reply has the same paths, statuses and names of properties.
abbrev pub PropfindIsIsolated : Type 0
PropfindIsIsolated =
    (h : Lock) (headers : Headers) (p : PathText) (content : Body) (who : Caller) (plan : MethodPlan Reply)
    → IsInReach h (names p) → IsPropfind headers p content who plan → IsIsolatedPlan h plan

-- A PROPPATCH at a guarded folder or below it, whose If submits the guard's token alone, is isolated.
abbrev pub ProppatchIsIsolated : Type 0
ProppatchIsIsolated =
    (h : Lock) (headers : Headers) (p : PathText) (content : Body) (who : Caller) (plan : MethodPlan Reply)
    → IsGuard h → IsInReach h (names p) → SubmitsAlone headers p h → IsProppatch headers p content who plan → IsIsolatedPlan h plan

-- A COPY from a guarded folder or from below it, or a MOVE from below it, to a path strictly below it, whose If submits the
-- guard's token alone, is isolated.
abbrev pub CopyMoveIsIsolated : Type 0
CopyMoveIsIsolated =
    (h : Lock) (m : DavMethod) (headers : Headers) (p : PathText) (who : Caller) (plan : MethodPlan Reply)
    → IsGuard h → p.bytes ≢ star → (m ≡ Move → IsInside h (names p)) → IsInReach h (names p)
    → ((d : PathText) → DestinationNames p.prefix (get_all headers (codes "destination")) (Ok d) → IsInside h (names d))
    → SubmitsAlone headers p h → IsCopyMove m headers p who plan → IsIsolatedPlan h plan

-- An UNLOCK at a guarded folder or below it, whose Lock-Token has the guard's token, is isolated: the lock ends in both runs.
abbrev pub UnlockIsIsolated : Type 0
UnlockIsIsolated =
    (h : Lock) (headers : Headers) (p : PathText) (who : Caller) (plan : MethodPlan Reply)
    → IsGuard h → IsInReach h (names p) → SaysLockToken headers h.token → IsUnlock headers p who plan → IsIsolatedPlan h plan

-- A LOCK without a body at a guarded folder or below it, whose If submits the guard's token alone, is isolated: the guard is
-- refreshed in both runs.
abbrev pub LockIsIsolated : Type 0
LockIsIsolated =
    (h : Lock) (headers : Headers) (p : PathText) (body : Body) (who : Caller) (plan : MethodPlan Reply)
    → IsGuard h → IsInReach h (names p) → is_absent body ≡ true → SubmitsAlone headers p h → IsLock headers p body who plan → IsIsolatedPlan h plan
