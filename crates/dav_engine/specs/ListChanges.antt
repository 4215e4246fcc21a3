-- How requests change the list of locks (RFC 4918, sections 6.1, 7 and 9.11).
use Rattle.std.specs.Prelude.{◌≡◌, ℕ, ◌++◌, true, List, [], ◌∷◌, All, Contains, Option, Some, Result}
use Rattle.dav_core.specs.declared.errors.FsError.{FsError}
use Rattle.dav_core.specs.declared.errors.DavError.{DavError}
use Rattle.dav_core.specs.declared.method.DavMethod.{DavMethod}
use Rattle.dav_core.specs.Asking.{Call, Answer, StoreState, Asks}
use Rattle.dav_core.specs.LockLaws.{CoveringAreShared}
use Rattle.dav_core.specs.Locks.{Lock, is_grantable, unlocked, refreshed, deleted}
use Rattle.dav_core.specs.Path.{Path, PathText}
use Rattle.dav_engine.specs.declared.request.Body.{Body}
use Rattle.dav_engine.specs.Caller.{Caller}
use Rattle.dav_engine.specs.CopyMove.{IsCopyMove}
use Rattle.dav_engine.specs.Delete.{IsDelete}
use Rattle.dav_engine.specs.Guard.{OnList}
use Rattle.dav_engine.specs.Headers.{Headers}
use Rattle.dav_engine.specs.Lock.{IsLock}
use Rattle.dav_engine.specs.Method.{MethodPlan}
use Rattle.dav_engine.specs.Mkcol.{IsMkcol}
use Rattle.dav_engine.specs.Plan.{Plan, Done, Ask, Look, Keep, Locks, Ran, Cut}
use Rattle.dav_engine.specs.Proppatch.{IsProppatch}
use Rattle.dav_engine.specs.Put.{IsPut}
use Rattle.dav_engine.specs.Reply.{Reply}
use Rattle.dav_engine.specs.Unlock.{IsUnlock}
use Rattle.dav_engine.specs.WorldLaws.{IsReading}

-- One change of the list of locks by a request of this client: a lock with the client's token is granted, where it is
-- grantable, at the end of the list; or a lock is refreshed, or unlocked; or those at a path and below it end
-- (RFC 4918, sections 6.1, 9.6, 9.10 and 9.11).
pub data IsChange (who : Caller) (ls : List Lock) : List Lock → Type 0 where
  grants : (l : Lock) → who.token ≡ Some l.token → is_grantable l ls ≡ true → IsChange who ls (ls ++ l ∷ [])
  refreshes : (token : List ℕ) (p : Path) (timeout : Option ℕ) (now : ℕ) {ms : List Lock} → refreshed token p timeout now ls ≡ Some ms → IsChange who ls ms
  unlocks : (token : List ℕ) (p : Path) {ms : List Lock} → unlocked token p ls ≡ Some ms → IsChange who ls ms
  drops : (p : Path) → IsChange who ls (deleted p ls)

-- The second list comes from the first by such changes as `IsChange` allows this client, one after another, perhaps none.
pub data AreChanges (who : Caller) : List Lock → List Lock → Type 0 where
  no_change : {ls : List Lock} → AreChanges who ls ls
  a_change : {ls ks ms : List Lock} → IsChange who ls ks → AreChanges who ks ms → AreChanges who ls ms

-- Whatever the store answers, each list of locks that the plan sets is one change that `IsChange` allows this client, of the list as it is then.
pub data ChangesList (who : Caller) {A : Type 0} : List Lock → Plan A → Type 0 where
  changes_done : {ls : List Lock} {a : A} → ChangesList who ls (Done a)
  changes_ask : {ls : List Lock} {c : Call} {go : Result (Answer c) FsError → Plan A} → ((answer : Result (Answer c) FsError) → ChangesList who ls (go answer)) → ChangesList who ls (Ask c go)
  changes_look : {ls : List Lock} {go : Locks → Plan A} → ChangesList who ls (go (Some ls)) → ChangesList who ls (Look go)
  changes_list : {ls ks : List Lock} {rest : Plan A} → IsChange who ls ks → ChangesList who ks rest → ChangesList who ls (Keep ks rest)

-- The list of locks that a plan leaves comes from the list before by changes that `IsChange` allows, whatever the store refuses.
abbrev pub ListsAreChanged : Type 0
ListsAreChanged =
    (who : Caller) (plan : MethodPlan Reply) (old new : StoreState) (ls : List Lock) (ms : Locks) (a : Result Reply DavError)
    → ChangesList who ls plan → Ran Asks plan old (Some ls) a new ms → OnList (AreChanges who ls) ms

-- The list of locks comes from the list before by changes that `IsChange` allows also where memory runs out in the plan.
abbrev pub ListsAreChangedCut : Type 0
ListsAreChangedCut =
    (who : Caller) (plan : MethodPlan Reply) (old new : StoreState) (ls : List Lock) (ms : Locks)
    → ChangesList who ls plan → Cut Asks (Some ls) plan old (Some ls) new ms → OnList (AreChanges who ls) ms

-- Through changes that `IsChange` allows, any two locks that cover one path stay both shared (RFC 4918, section 6.2).
abbrev pub ChangesKeepShared : Type 0
ChangesKeepShared = (who : Caller) (ls ms : List Lock) → AreChanges who ls ms → CoveringAreShared ls → CoveringAreShared ms

-- Each lock of the list has one of these tokens.
abbrev pub HaveTokens : List (List ℕ) → List Lock → Type 0
HaveTokens tokens ls = All (λ l. Contains tokens l.token) ls

-- After changes that `IsChange` allows, no lock has a token but those that locks had before, and the client's.
abbrev pub ChangesBringTokens : Type 0
ChangesBringTokens =
    (who : Caller) (tokens : List (List ℕ)) (ls ms : List Lock)
    → AreChanges who ls ms → HaveTokens tokens ls → ((token : List ℕ) → who.token ≡ Some token → Contains tokens token) → HaveTokens tokens ms

-- A plan that only reads changes the list of locks as `IsChange` allows: not at all.
abbrev pub ReadingChangesList : Type 0
ReadingChangesList = (who : Caller) (ls : List Lock) (plan : MethodPlan Reply) → IsReading plan → ChangesList who ls plan

-- A PUT or PATCH changes the list of locks as `IsChange` allows: not at all.
abbrev pub PutChangesList : Type 0
PutChangesList =
    (m : DavMethod) (headers : Headers) (p : PathText) (body : Body) (who : Caller) (ls : List Lock) (plan : MethodPlan Reply)
    → IsPut m headers p body who plan → ChangesList who ls plan

-- A MKCOL changes the list of locks as `IsChange` allows: not at all.
abbrev pub MkcolChangesList : Type 0
MkcolChangesList =
    (headers : Headers) (p : PathText) (who : Caller) (ls : List Lock) (plan : MethodPlan Reply)
    → IsMkcol headers p who plan → ChangesList who ls plan

-- A PROPPATCH changes the list of locks as `IsChange` allows: not at all.
abbrev pub ProppatchChangesList : Type 0
ProppatchChangesList =
    (headers : Headers) (p : PathText) (content : Body) (who : Caller) (ls : List Lock) (plan : MethodPlan Reply)
    → IsProppatch headers p content who plan → ChangesList who ls plan

-- A DELETE changes the list of locks as `IsChange` allows.
abbrev pub DeleteChangesList : Type 0
DeleteChangesList =
    (headers : Headers) (p : PathText) (who : Caller) (ls : List Lock) (plan : MethodPlan Reply)
    → IsDelete headers p who plan → ChangesList who ls plan

-- A COPY or MOVE changes the list of locks as `IsChange` allows.
abbrev pub CopyMoveChangesList : Type 0
CopyMoveChangesList =
    (m : DavMethod) (headers : Headers) (p : PathText) (who : Caller) (ls : List Lock) (plan : MethodPlan Reply)
    → IsCopyMove m headers p who plan → ChangesList who ls plan

-- An UNLOCK changes the list of locks as `IsChange` allows.
abbrev pub UnlockChangesList : Type 0
UnlockChangesList =
    (headers : Headers) (p : PathText) (who : Caller) (ls : List Lock) (plan : MethodPlan Reply)
    → IsUnlock headers p who plan → ChangesList who ls plan

-- A LOCK changes the list of locks as `IsChange` allows.
abbrev pub LockChangesList : Type 0
LockChangesList =
    (headers : Headers) (p : PathText) (content : Body) (who : Caller) (ls : List Lock) (plan : MethodPlan Reply)
    → IsLock headers p content who plan → ChangesList who ls plan
