-- What methods do to worlds: plans that only read, plans that a caller may carry out, and what an entity tag says about
-- bytes.
use Rattle.std.specs.Prelude.{◌≡◌, ◌≢◌, ℕ, ◌<◌, ◌≤◌, ⊤, false, List, [], ◌∷◌, All, Some, None, Result, Ok, Err}
use Rattle.dav_core.specs.declared.errors.FsError.{FsError}
use Rattle.dav_core.specs.declared.errors.DavError.{DavError}
use Rattle.dav_core.specs.declared.method.DavMethod.{DavMethod}
use Rattle.dav_core.specs.Asking.{Call, Answer, StoreState, Asks, ReadDir, CreateDir, RemoveDir, RemoveFile, Rename, Copy, PatchProps, Open, Write}
use Rattle.dav_core.specs.CallLaws.{IsProper, IsStorable}
use Rattle.dav_core.specs.Locks.{Lock}
use Rattle.dav_core.specs.Path.{Path, PathText, names, star as path_star}
use Rattle.dav_core.specs.World.{World, Node, File, node_at, last_moment, IsWorld}
use Rattle.dav_headers.specs.ETagList.{star}
use Rattle.dav_engine.specs.declared.request.Body.{Body}
use Rattle.dav_engine.specs.Caller.{Caller}
use Rattle.dav_engine.specs.Conditions.{Conditions}
use Rattle.dav_engine.specs.CopyMove.{IsCopyMove}
use Rattle.dav_engine.specs.Delete.{IsDelete}
use Rattle.dav_engine.specs.Headers.{Headers}
use Rattle.dav_engine.specs.Lock.{IsLock}
use Rattle.dav_engine.specs.Method.{MethodPlan}
use Rattle.dav_engine.specs.Mkcol.{mkcol, mkcol_allowed, IsMkcol}
use Rattle.dav_engine.specs.Options.{options}
use Rattle.dav_engine.specs.Plan.{Plan, Done, Ask, Look, Keep, Locks, Ran}
use Rattle.dav_engine.specs.Propfind.{IsPropfind}
use Rattle.dav_engine.specs.Proppatch.{IsProppatch}
use Rattle.dav_engine.specs.Put.{PutHeaders, put, put_allowed, IsPut}
use Rattle.dav_engine.specs.Reply.{Reply}
use Rattle.dav_engine.specs.Unlock.{IsUnlock}

-- a call that leaves the world as it is, whatever its answer
abbrev pub OnlyReads : Call → Type 0
OnlyReads (CreateDir p now) = ⊥
OnlyReads (RemoveDir p now) = ⊥
OnlyReads (RemoveFile p now) = ⊥
OnlyReads (Rename from to now) = ⊥
OnlyReads (Copy from to now) = ⊥
OnlyReads (PatchProps p patches) = ⊥
OnlyReads (Open p how now) = (how.truncate ≡ false) × (how.create ≡ false) × (how.create_new ≡ false)
OnlyReads (Write file bytes now) = ⊥
OnlyReads _ = ⊤

-- A plan all of whose calls only read, and that doesn't set the list of locks (RFC 9110, section 9.2.1).
pub data IsReading {A : Type 0} : Plan A → Type 0 where
  reads_done : {a : A} → IsReading (Done a)
  reads_ask : {c : Call} {go : Result (Answer c) FsError → Plan A} → OnlyReads c → ((answer : Result (Answer c) FsError) → IsReading (go answer)) → IsReading (Ask c go)
  reads_look : {go : Locks → Plan A} → ((ls : Locks) → IsReading (go ls)) → IsReading (Look go)

-- What a store that holds a world may answer: the names that it lists are names that a path may have.
abbrev pub MayTell : (call : Call) → Result (Answer call) FsError → Type 0
MayTell (ReadDir p) (Ok entries) = All (λ e. IsStorable (e.0 ∷ [])) entries
MayTell _ _ = ⊤

-- A plan that makes only calls that a caller may make (`IsProper`), as long as the answers are those of a store that holds a world.
pub data IsProperPlan {A : Type 0} : Plan A → Type 0 where
  proper_done : {a : A} → IsProperPlan (Done a)
  proper_ask : {c : Call} {go : Result (Answer c) FsError → Plan A} → IsProper c → ((answer : Result (Answer c) FsError) → MayTell c answer → IsProperPlan (go answer)) → IsProperPlan (Ask c go)
  proper_look : {go : Locks → Plan A} → ((ls : Locks) → IsProperPlan (go ls)) → IsProperPlan (Look go)
  proper_keep : {locks : List Lock} {rest : Plan A} → IsProperPlan rest → IsProperPlan (Keep locks rest)

-- A plan that only reads leaves the world and the list of locks, whatever the store refuses (RFC 9110, section 9.2.1).
abbrev pub ReadingLeavesAll : Type 0
ReadingLeavesAll =
    (plan : MethodPlan Reply) (old new : StoreState) (ls ms : Locks) (a : Result Reply DavError)
    → IsReading plan → Ran Asks plan old ls a new ms → (new.world ≡ old.world) × (ms ≡ ls)

-- The plan of an OPTIONS only reads (RFC 9110, section 9.2.1).
abbrev pub OptionsOnlyReads : Type 0
OptionsOnlyReads = (allowed : ℕ) (p : PathText) → IsReading (options allowed p)

-- The plan of a PROPFIND only reads (RFC 9110, section 9.2.1).
abbrev pub PropfindOnlyReads : Type 0
PropfindOnlyReads =
    (headers : Headers) (p : PathText) (content : Body) (who : Caller) (plan : MethodPlan Reply)
    → IsPropfind headers p content who plan → IsReading plan

-- A plan of calls that a caller may make keeps what makes a world a world, and the next change number never falls (RFC 4918, section 5.1).
abbrev pub ProperPlansKeepWorlds : Type 0
ProperPlansKeepWorlds =
    (plan : MethodPlan Reply) (old new : StoreState) (ls ms : Locks) (a : Result Reply DavError)
    → IsProperPlan plan → IsWorld old.world → Ran Asks plan old ls a new ms → IsWorld new.world × (old.world.next ≤ new.world.next)

-- The plan of a PUT or PATCH makes only calls that a caller may make, at a path of names and a moment that HTTP can write.
abbrev pub PutIsProper : Type 0
PutIsProper =
    (m : DavMethod) (headers : Headers) (p : PathText) (body : Body) (who : Caller) (plan : MethodPlan Reply)
    → IsStorable (names p) → who.moment ≤ last_moment → IsPut m headers p body who plan → IsProperPlan plan

-- The plan of a MKCOL makes only calls that a caller may make, at a path of names and a moment that HTTP can write.
abbrev pub MkcolIsProper : Type 0
MkcolIsProper =
    (headers : Headers) (p : PathText) (who : Caller) (plan : MethodPlan Reply)
    → IsStorable (names p) → who.moment ≤ last_moment → IsMkcol headers p who plan → IsProperPlan plan

-- The plan of a DELETE makes only calls that a caller may make, whatever its path is, at a moment that HTTP can write.
abbrev pub DeleteIsProper : Type 0
DeleteIsProper =
    (headers : Headers) (p : PathText) (who : Caller) (plan : MethodPlan Reply)
    → who.moment ≤ last_moment → IsDelete headers p who plan → IsProperPlan plan

-- the plan of an UNLOCK makes only calls that a caller may make
abbrev pub UnlockIsProper : Type 0
UnlockIsProper = (headers : Headers) (p : PathText) (who : Caller) (plan : MethodPlan Reply) → IsUnlock headers p who plan → IsProperPlan plan

-- The plan of a LOCK makes only calls that a caller may make, at a path of names but not the star path, and a moment that HTTP can write.
abbrev pub LockIsProper : Type 0
LockIsProper =
    (headers : Headers) (p : PathText) (body : Body) (who : Caller) (plan : MethodPlan Reply)
    → IsStorable (names p) → p.bytes ≢ path_star → who.moment ≤ last_moment → IsLock headers p body who plan → IsProperPlan plan

-- The plan of a COPY or MOVE makes only calls that a caller may make, whatever its path is, at a moment that HTTP can write:
-- what Destination names is a path of names.
abbrev pub CopyMoveIsProper : Type 0
CopyMoveIsProper =
    (m : DavMethod) (headers : Headers) (p : PathText) (who : Caller) (plan : MethodPlan Reply)
    → who.moment ≤ last_moment → IsCopyMove m headers p who plan → IsProperPlan plan

-- The plan of a PROPFIND makes only calls that a caller may make, whatever its path and its moment are.
abbrev pub PropfindIsProper : Type 0
PropfindIsProper =
    (headers : Headers) (p : PathText) (content : Body) (who : Caller) (plan : MethodPlan Reply)
    → IsPropfind headers p content who plan → IsProperPlan plan

-- the plan of a PROPPATCH makes only calls that a caller may make, whatever its path and its moment are
abbrev pub ProppatchIsProper : Type 0
ProppatchIsProper =
    (headers : Headers) (p : PathText) (content : Body) (who : Caller) (plan : MethodPlan Reply)
    → IsProppatch headers p content who plan → IsProperPlan plan

-- An error of the checks of a PUT or PATCH, before the file is opened, is its outcome, and leaves the world and the list of locks as they were.
abbrev pub RefusedPutLeavesAll : Type 0
RefusedPutLeavesAll =
    (m : DavMethod) (h : PutHeaders) (p : Path) (who : Caller) (bytes : List ℕ) (old new : StoreState) (ls ms : Locks) (e : DavError)
    → Ran Asks (put_allowed m h p who bytes) old ls (Err e) new ms
    → Ran Asks (put m h p who bytes) old ls (Err e) new ms × (new.world ≡ old.world) × (ms ≡ ls)

-- An error of the checks of a MKCOL, before the folder is created, is its outcome, and leaves the world and the list of locks as they were.
abbrev pub RefusedMkcolLeavesAll : Type 0
RefusedMkcolLeavesAll =
    (c : Conditions) (p : PathText) (who : Caller) (old new : StoreState) (ls ms : Locks) (e : DavError)
    → Ran Asks (mkcol_allowed c p who) old ls (Err e) new ms
    → Ran Asks (mkcol c p who) old ls (Err e) new ms × (new.world ≡ old.world) × (ms ≡ ls)

-- A PUT or PATCH with If-None-Match `*` that succeeds found nothing at its path, also where the store refused to say what is
-- there (RFC 9110, section 13.1.2).
abbrev pub CreatesOnly : Type 0
CreatesOnly =
    (m : DavMethod) (h : PutHeaders) (p : Path) (who : Caller) (bytes : List ℕ) (old new : StoreState) (ls ms : Locks) (r : Reply)
    → h.conditions.if_none_match ≡ Some star → Ran Asks (put m h p who bytes) old ls (Ok r) new ms → node_at old.world p ≡ None

-- A PUT or PATCH with If-None-Match `*` of a path at which something is leaves the world and the list of locks, whatever the
-- store refuses (RFC 9110, section 13.1.2).
abbrev pub CreateOnlyLeavesAll : Type 0
CreateOnlyLeavesAll =
    (m : DavMethod) (h : PutHeaders) (p : Path) (who : Caller) (bytes : List ℕ) (old new : StoreState) (ls ms : Locks)
    (a : Result Reply DavError) (n : Node)
    → h.conditions.if_none_match ≡ Some star → node_at old.world p ≡ Some n → Ran Asks (put m h p who bytes) old ls a new ms
    → (new.world ≡ old.world) × (ms ≡ ls)

-- The change number was handed out, and whatever has it is a file with these bytes (RFC 9110, section 8.8.1).
pub record Remembers (number : ℕ) (bytes : List ℕ) (w : World) : Type 0 where
  pub below : number < w.next
  pub bytes_are : (p : Path) (n : Node) → node_at w p ≡ Some n → n.number ≡ number → n.kind ≡ File bytes

-- A change number identifies bytes: what `Remembers` once says of it holds from then on (RFC 9110, section 8.8.1).
abbrev pub PlansRemember : Type 0
PlansRemember =
    (plan : MethodPlan Reply) (old new : StoreState) (ls ms : Locks) (a : Result Reply DavError) (number : ℕ) (bytes : List ℕ)
    → IsProperPlan plan → IsWorld old.world → Remembers number bytes old.world → Ran Asks plan old ls a new ms → Remembers number bytes new.world
