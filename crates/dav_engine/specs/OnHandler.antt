-- What contracts see of a request while it is answered.
use Rattle.std.specs.Prelude.{◌≡◌, ℕ, List, Result}
use Rattle.std.specs.Option.{option_map}
use Rattle.dav_core.specs.Asking.{StoreState}
use Rattle.dav_core.specs.Locks.{Lock}
use Rattle.dav_core.specs.declared.errors.DavError.{DavError}
use Rattle.dav_engine.specs.declared.davinner.DavInner.{DavInner}
use Rattle.dav_engine.specs.declared.request.Body.{Body}
use Rattle.dav_engine.specs.declared.request.DavRequest.{DavRequest}
use Rattle.dav_engine.specs.Caller.{Caller}
use Rattle.dav_engine.specs.Asker.{caller_at}
use Rattle.dav_engine.specs.CopyMove.{IsCopyMove}
use Rattle.dav_engine.specs.Delete.{IsDelete}
use Rattle.dav_engine.specs.Follows.{Follows, Serves}
use Rattle.dav_engine.specs.Lock.{IsLock}
use Rattle.dav_engine.specs.Method.{MethodPlan}
use Rattle.dav_engine.specs.Mkcol.{IsMkcol}
use Rattle.dav_engine.specs.Options.{options}
use Rattle.dav_engine.specs.Plan.{ServerState}
use Rattle.dav_engine.specs.Propfind.{IsPropfind}
use Rattle.dav_engine.specs.Proppatch.{IsProppatch}
use Rattle.dav_engine.specs.Put.{IsPut}
use Rattle.dav_engine.specs.Reply.{Reply}
use Rattle.dav_engine.specs.Unlock.{IsUnlock}

-- The state of a server that the request borrows, by the states of its store and of its locks.
abbrev pub state_in : {F L A B : Type 0} → (F → StoreState) → (L → List Lock) → DavInner F L A B → ServerState
state_in state list inner = record { store = state inner.fs.now; locks = option_map list inner.ls.now }

-- Who makes the request, and when.
abbrev pub caller_in : {F L A B : Type 0} → DavInner F L A B → Caller
caller_in inner = caller_at inner.moment inner.caller.now

-- The request still borrows the same store and the same locks, of which the list is as before, and the store may have
-- changed; its allowed methods, its moment and who makes it are as before.
pub record SameLocksBorrowed {F L A B : Type 0} (list : L → List Lock) (old new : DavInner F L A B) : Type 0 where
  pub fs : new.fs.ghost_name ≡ old.fs.ghost_name
  pub ls : new.ls.ghost_name ≡ old.ls.ghost_name
  pub allow : new.allow ≡ old.allow
  pub moment : new.moment ≡ old.moment
  pub caller : new.caller ≡ old.caller
  pub locks : option_map list new.ls.now ≡ option_map list old.ls.now

-- The request still borrows the same store and the same locks, which both may have changed; its allowed methods, its moment
-- and who makes it are as before.
pub record SameStateBorrowed {F L A B : Type 0} (old new : DavInner F L A B) : Type 0 where
  pub fs : new.fs.ghost_name ≡ old.fs.ghost_name
  pub ls : new.ls.ghost_name ≡ old.ls.ghost_name
  pub allow : new.allow ≡ old.allow
  pub moment : new.moment ≡ old.moment
  pub caller : new.caller ≡ old.caller

-- What is stored in the store that the request borrows is as before.
abbrev pub KeepsWorld : {F L A B : Type 0} → (F → StoreState) → DavInner F L A B → DavInner F L A B → Type 0
KeepsWorld state old new = (state new.fs.now).world ≡ (state old.fs.now).world

-- the request was answered by a plan of this kind for its caller, on the state that it borrows
abbrev pub ServesFrom : {F L A B : Type 0} → (F → StoreState) → (L → List Lock) → (Caller → MethodPlan Reply → Type 0) → DavInner F L A B → Result Reply DavError → DavInner F L A B → Type 0
ServesFrom state list kind old result new = Serves (kind (caller_in old)) (state_in state list old) result (state_in state list new)

-- A part of the plan of a request was carried out for its caller, on the state that it borrows.
abbrev pub FollowsOn : {F L A B X Y : Type 0} → (F → StoreState) → (L → List Lock) → (Y → X) → (Caller → MethodPlan X) → DavInner F L A B → Result Y DavError → DavInner F L A B → Type 0
FollowsOn state list view plan old result new =
    Follows view (plan (caller_in old)) (state old.fs.now) (option_map list old.ls.now) result (state new.fs.now) (option_map list new.ls.now)

-- the plans of a MKCOL, by who makes it
abbrev pub MkcolOf : DavRequest → Caller → MethodPlan Reply → Type 0
MkcolOf request who = IsMkcol request.headers request.path who

-- the plans of a PUT or PATCH with this body, by who makes it
abbrev pub PutOf : DavRequest → Body → Caller → MethodPlan Reply → Type 0
PutOf request body who = IsPut request.method request.headers request.path body who

-- the plans of a DELETE, by who makes it
abbrev pub DeleteOf : DavRequest → Caller → MethodPlan Reply → Type 0
DeleteOf request who = IsDelete request.headers request.path who

-- the plan of an OPTIONS where these methods are allowed, whoever makes it
abbrev pub OptionsOf : ℕ → DavRequest → Caller → MethodPlan Reply → Type 0
OptionsOf allowed request who plan = plan ≡ options allowed request.path

-- the plans of an UNLOCK, by who makes it
abbrev pub UnlockOf : DavRequest → Caller → MethodPlan Reply → Type 0
UnlockOf request who = IsUnlock request.headers request.path who

-- the plans of a LOCK with this body, by who makes it
abbrev pub LockOf : DavRequest → Body → Caller → MethodPlan Reply → Type 0
LockOf request body who = IsLock request.headers request.path body who

-- the plans of a COPY or MOVE, by who makes it
abbrev pub CopyMoveOf : DavRequest → Caller → MethodPlan Reply → Type 0
CopyMoveOf request who = IsCopyMove request.method request.headers request.path who

-- the plans of a PROPPATCH with this body, by who makes it
abbrev pub ProppatchOf : DavRequest → Body → Caller → MethodPlan Reply → Type 0
ProppatchOf request body who = IsProppatch request.headers request.path body who

-- the plans of a PROPFIND with this body, by who makes it
abbrev pub PropfindOf : DavRequest → Body → Caller → MethodPlan Reply → Type 0
PropfindOf request body who = IsPropfind request.headers request.path body who
