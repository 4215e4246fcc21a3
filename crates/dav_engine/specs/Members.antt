-- Plans that leave the list of a folder's members as it is: which names are directly below it, and which of them are folders
-- (RFC 4918, section 7.4: a write lock on a collection, of either depth, guards that list).
use Rattle.std.specs.Prelude.{◌≡◌, ◌≢◌, ◌⊎◌, ℕ, ◌&&◌, ◌||◌, ⊤, Bool, true, false, not, List, Option, Some, None, Result, Ok, Err}
use Rattle.std.specs.declared.io.traits.SeekFrom.{SeekFrom}
use Rattle.dav_core.specs.declared.errors.FsError.{FsError}
use Rattle.dav_core.specs.declared.errors.DavError.{DavError}
use Rattle.dav_core.specs.declared.fs.DavMetaData.{DavMetaData}
use Rattle.dav_core.specs.declared.method.DavMethod.{DavMethod}
use Rattle.dav_core.specs.Asking.{Call, Answer, StoreState, Asks, Metadata, CreateDir, RemoveDir, RemoveFile, Rename, Copy, PatchProps, Open, Write, Seek}
use Rattle.dav_core.specs.Handle.{Handle}
use Rattle.dav_core.specs.Locks.{Lock, Requester, is_held, is_free_parent}
use Rattle.dav_core.specs.Path.{Path, PathText, star, is_root, is_same_path, parent_of}
use Rattle.dav_core.specs.World.{World, is_folder, members, IsWorld}
use Rattle.dav_engine.specs.declared.request.Body.{Body}
use Rattle.dav_engine.specs.Caller.{Caller}
use Rattle.dav_engine.specs.CopyMove.{IsCopyMove}
use Rattle.dav_engine.specs.Delete.{IsDelete}
use Rattle.dav_engine.specs.Guard.{folder_of, IsListed, Stands}
use Rattle.dav_engine.specs.Headers.{Headers}
use Rattle.dav_engine.specs.Lock.{IsLock}
use Rattle.dav_engine.specs.Method.{MethodPlan}
use Rattle.dav_engine.specs.Mkcol.{IsMkcol}
use Rattle.dav_engine.specs.Plan.{Done, Ask, Look, Keep, Locks, Ran, Cut}
use Rattle.dav_engine.specs.Proppatch.{IsProppatch}
use Rattle.dav_engine.specs.Put.{IsPut}
use Rattle.dav_engine.specs.Reply.{Reply}
use Rattle.dav_engine.specs.Sparing.{NoneUnder}
use Rattle.dav_engine.specs.SparingPlans.{IsStranger}
use Rattle.dav_engine.specs.Unlock.{IsUnlock}
use Rattle.dav_engine.specs.WorldLaws.{OnlyReads, IsReading, IsProperPlan}

-- Whether p is directly below f.
abbrev pub is_member : Path → Path → Bool
is_member f p = not (is_root p) && is_same_path (parent_of p) f

-- Whether p is f itself, or directly below it.
abbrev pub is_folder_or_member : Path → Path → Bool
is_folder_or_member f p = is_same_path f p || is_member f p

-- f is still a folder, with the same members: the same names, each a folder or a file as before (RFC 4918, section 7.4)
pub record SameMembers (f : Path) (w v : World) : Type 0 where
  pub folder : is_folder v f ≡ true
  pub listed : members f v.nodes ≡ members f w.nodes

-- What is put at p isn't a new member of f: p isn't directly below f, or something is known to be at p already.
abbrev pub BringsNoMember : Path → Option Path → Path → Type 0
BringsNoMember f known p = (is_member f p ≡ false) ⊎ (known ≡ Some p)

-- A call that changes the store, but not which members f has: it brings none, and takes away neither f nor one of them.
abbrev pub LeavesMembers : Path → Option Path → Call → Type 0
LeavesMembers f known (CreateDir p now) = BringsNoMember f known p
LeavesMembers f known (Open p how now) = BringsNoMember f known p
LeavesMembers f known (Copy from to now) = BringsNoMember f known to
LeavesMembers f known (RemoveDir p now) = NoneUnder (is_folder_or_member f) p
LeavesMembers f known (RemoveFile p now) = NoneUnder (is_folder_or_member f) p
LeavesMembers f known (Rename from to now) = NoneUnder (is_folder_or_member f) from × NoneUnder (is_folder_or_member f) to
LeavesMembers f known (PatchProps p patches) = ⊤
LeavesMembers f known (Write file bytes now) = ⊤
LeavesMembers f known _ = ⊥

-- Each change that a plan makes leaves the members of the lock's folder, as long as the lock is in each list that it reads. `known` is
-- a path at which the store reported something, and nothing was changed since. P holds of what is known at the end and of what the
-- plan gives. A whole plan may end with any setting of the list: with it the lock may end (RFC 4918, section 7.4).
pub data MembersStay {A : Type 0} (h : Lock) (whole : Bool) (P : Option Path → A → Type 0) : Option Path → MethodPlan A → Type 0 where
  stay_ok : {known : Option Path} {a : A} → P known a → MembersStay h whole P known (Done (Ok a))
  stay_err : {known : Option Path} {e : DavError} → MembersStay h whole P known (Done (Err e))
  stay_reads : {known : Option Path} {c : Call} {go : Result (Answer c) FsError → MethodPlan A}
      → OnlyReads c → ((answer : Result (Answer c) FsError) → MembersStay h whole P known (go answer)) → MembersStay h whole P known (Ask c go)
  stay_found : {known : Option Path} {p : Path} {go : Result DavMetaData FsError → MethodPlan A}
      → ((m : DavMetaData) → MembersStay h whole P (Some p) (go (Ok m))) → ((e : FsError) → MembersStay h whole P known (go (Err e)))
      → MembersStay h whole P known (Ask (Metadata p) go)
  stay_seeks : {known : Option Path} {k : Handle} {to : SeekFrom} {go : Result (ℕ × Handle) FsError → MethodPlan A}
      → ((place : ℕ) (j : Handle) → j.made ≡ k.made → MembersStay h whole P known (go (Ok (place, j)))) → ((e : FsError) → MembersStay h whole P known (go (Err e)))
      → MembersStay h whole P known (Ask (Seek k to) go)
  stay_call : {known : Option Path} {c : Call} {go : Result (Answer c) FsError → MethodPlan A}
      → LeavesMembers (folder_of h) known c → ((answer : Result (Answer c) FsError) → MembersStay h whole P None (go answer)) → MembersStay h whole P known (Ask c go)
  stay_look : {known : Option Path} {go : Locks → MethodPlan A} → ((ls : List Lock) → IsListed h ls → MembersStay h whole P known (go (Some ls))) → MembersStay h whole P known (Look go)
  stay_keep : {known : Option Path} {locks : List Lock} {rest : MethodPlan A} → IsListed h locks → MembersStay h whole P known rest → MembersStay h whole P known (Keep locks rest)
  stay_last : {known : Option Path} {locks : List Lock} {r : Result A DavError} → whole ≡ true → MembersStay h whole P known (Keep locks (Done r))

-- A whole plan that leaves the members of a lock's folder, and knows of no path when it begins (RFC 4918, section 7.4).
abbrev pub LeavesList : Lock → MethodPlan Reply → Type 0
LeavesList h plan = MembersStay h true (λ known a. ⊤) None plan

-- A plan that `LeavesList` holds of leaves the members of a lock's folder, and the folder, whatever else is in the list of
-- locks and whatever the store refuses (RFC 4918, section 7.4).
abbrev pub PlansLeaveMembers : Type 0
PlansLeaveMembers =
    (h : Lock) (plan : MethodPlan Reply) (old new : StoreState) (ls ms : Locks) (a : Result Reply DavError)
    → LeavesList h plan → IsProperPlan plan → Ran Asks plan old ls a new ms
    → Stands h ls → IsWorld old.world → is_folder old.world (folder_of h) ≡ true → SameMembers (folder_of h) old.world new.world

-- A plan that `LeavesList` holds of leaves the members of a lock's folder also where memory runs out in it (RFC 4918, section 7.4).
abbrev pub PlansLeaveMembersCut : Type 0
PlansLeaveMembersCut =
    (h : Lock) (plan : MethodPlan Reply) (old new : StoreState) (ls ms : Locks)
    → LeavesList h plan → IsProperPlan plan → Cut Asks ls plan old ls new ms
    → Stands h ls → IsWorld old.world → is_folder old.world (folder_of h) ≡ true → SameMembers (folder_of h) old.world new.world

-- Where the folder above a path is free for a requester that doesn't hold an exclusive lock, the path is no member of the lock's folder
-- (RFC 4918, section 7.4).
abbrev pub ParentFreeIsNoMember : Type 0
ParentFreeIsNoMember =
    (h : Lock) (who : Requester) (p : Path) (ls : List Lock)
    → h.shared ≡ false → is_held who h ≡ false → IsListed h ls → is_free_parent who p ls ≡ true → is_member (folder_of h) p ≡ false

-- A plan that only reads leaves the members of each lock's folder.
abbrev pub ReadingLeavesMembers : Type 0
ReadingLeavesMembers = (h : Lock) (plan : MethodPlan Reply) → IsReading plan → LeavesList h plan

-- A PUT or PATCH of a client that doesn't hold an exclusive lock leaves the members of the lock's folder (RFC 4918, section 7.4).
abbrev pub PutLeavesMembers : Type 0
PutLeavesMembers =
    (h : Lock) (m : DavMethod) (headers : Headers) (p : PathText) (body : Body) (who : Caller) (plan : MethodPlan Reply)
    → h.shared ≡ false → IsStranger headers p who h → IsPut m headers p body who plan → LeavesList h plan

-- A MKCOL of a client that doesn't hold an exclusive lock leaves the members of the lock's folder (RFC 4918, section 7.4).
abbrev pub MkcolLeavesMembers : Type 0
MkcolLeavesMembers =
    (h : Lock) (headers : Headers) (p : PathText) (who : Caller) (plan : MethodPlan Reply)
    → h.shared ≡ false → IsStranger headers p who h → IsMkcol headers p who plan → LeavesList h plan

-- A DELETE of a client that doesn't hold an exclusive lock leaves the members of the lock's folder (RFC 4918, section 7.4).
abbrev pub DeleteLeavesMembers : Type 0
DeleteLeavesMembers =
    (h : Lock) (headers : Headers) (p : PathText) (who : Caller) (plan : MethodPlan Reply)
    → h.shared ≡ false → p.bytes ≢ star → IsStranger headers p who h → IsDelete headers p who plan → LeavesList h plan

-- A COPY or MOVE of a client that doesn't hold an exclusive lock leaves the members of the lock's folder (RFC 4918, section 7.4).
abbrev pub CopyMoveLeavesMembers : Type 0
CopyMoveLeavesMembers =
    (h : Lock) (m : DavMethod) (headers : Headers) (p : PathText) (who : Caller) (plan : MethodPlan Reply)
    → h.shared ≡ false → p.bytes ≢ star → IsStranger headers p who h → IsCopyMove m headers p who plan → LeavesList h plan

-- A LOCK of a client that doesn't hold an exclusive lock leaves the members of the lock's folder, also with the empty file that
-- it creates where nothing is there (RFC 4918, section 7.4).
abbrev pub LockLeavesMembers : Type 0
LockLeavesMembers =
    (h : Lock) (headers : Headers) (p : PathText) (body : Body) (who : Caller) (plan : MethodPlan Reply)
    → h.shared ≡ false → IsStranger headers p who h → IsLock headers p body who plan → LeavesList h plan

-- A PROPPATCH leaves the members of each lock's folder, whoever asks for it.
abbrev pub ProppatchLeavesMembers : Type 0
ProppatchLeavesMembers =
    (h : Lock) (headers : Headers) (p : PathText) (content : Body) (who : Caller) (plan : MethodPlan Reply)
    → IsProppatch headers p content who plan → LeavesList h plan

-- An UNLOCK leaves the members of each lock's folder, whoever asks for it.
abbrev pub UnlockLeavesMembers : Type 0
UnlockLeavesMembers = (h : Lock) (headers : Headers) (p : PathText) (who : Caller) (plan : MethodPlan Reply) → IsUnlock headers p who plan → LeavesList h plan
