-- Plans that leave the content at some paths as it is: those that a lock covers (RFC 4918, section 7).
use Rattle.std.specs.Prelude.{◌≡◌, ℕ, ◌≤◌, ⊤, Bool, true, false, List, Option, Some, None, Result, Ok, Err}
use Rattle.std.specs.Option.{option_map}
use Rattle.std.specs.declared.io.traits.SeekFrom.{SeekFrom}
use Rattle.dav_core.specs.declared.errors.FsError.{FsError}
use Rattle.dav_core.specs.declared.errors.DavError.{DavError}
use Rattle.dav_core.specs.Asking.{Call, Answer, StoreState, Asks, CreateDir, RemoveDir, RemoveFile, Rename, Copy, PatchProps, Open, Write, Seek}
use Rattle.dav_core.specs.Handle.{Handle, Opening}
use Rattle.dav_core.specs.Locks.{Lock, covers}
use Rattle.dav_core.specs.Path.{Path, is_at_or_under, is_under}
use Rattle.dav_core.specs.World.{World, node_at, is_folder, IsWorld}
use Rattle.dav_engine.specs.Guard.{folder_of, IsGuard, Guards, Guarded, IsListed, Stands, StillGuards}
use Rattle.dav_engine.specs.Inside.{content_of, SameInside, HasFoldersAbove}
use Rattle.dav_engine.specs.Method.{MethodPlan}
use Rattle.dav_engine.specs.Plan.{Done, Ask, Look, Keep, Locks, Ran, Cut}
use Rattle.dav_engine.specs.Reply.{Reply}
use Rattle.dav_engine.specs.WorldLaws.{OnlyReads, IsProperPlan}

-- none of these paths is at p or below it
abbrev pub NoneUnder : (Path → Bool) → Path → Type 0
NoneUnder covered p = (q : Path) → is_at_or_under q p ≡ true → covered q ≡ false

-- A call that changes the store, but not the content at any of these paths, and takes away no folder above them. A call that
-- removes or moves something spares the paths below it too. For Open and Write `Sparing` has rules of its own.
abbrev pub Spares : (Path → Bool) → Call → Type 0
Spares covered (CreateDir p now) = covered p ≡ false
Spares covered (RemoveDir p now) = NoneUnder covered p
Spares covered (RemoveFile p now) = NoneUnder covered p
Spares covered (Rename from to now) = NoneUnder covered from × NoneUnder covered to
Spares covered (Copy from to now) = covered to ≡ false
Spares covered (PatchProps p patches) = covered p ≡ false
Spares covered _ = ⊥

-- the file that a plan has open: the change number under which it was created, and its path
abbrev pub OpenFile : Type 0
OpenFile = ℕ × Path

-- Each change that a plan makes spares these paths; one file is open at a time. G is what is known of the list of locks when it
-- is read, and has to hold of the list when it is set. P holds of the file that is open at the end, and of what the plan gives.
-- In a whole plan a last setting of the list needs E alone: with it the lock may end.
pub data Sparing {A : Type 0} (covered : Path → Bool) (G E : List Lock → Type 0) (whole : Bool) (P : Option OpenFile → A → Type 0) : Option OpenFile → MethodPlan A → Type 0 where
  spares_ok : {file : Option OpenFile} {a : A} → P file a → Sparing covered G E whole P file (Done (Ok a))
  spares_err : {file : Option OpenFile} {e : DavError} → Sparing covered G E whole P file (Done (Err e))
  spares_reads : {file : Option OpenFile} {c : Call} {go : Result (Answer c) FsError → MethodPlan A}
      → OnlyReads c → ((answer : Result (Answer c) FsError) → Sparing covered G E whole P file (go answer)) → Sparing covered G E whole P file (Ask c go)
  spares_call : {c : Call} {go : Result (Answer c) FsError → MethodPlan A}
      → Spares covered c → ((answer : Result (Answer c) FsError) → Sparing covered G E whole P None (go answer)) → Sparing covered G E whole P None (Ask c go)
  spares_opens : {p : Path} {how : Opening} {now : ℕ} {go : Result Handle FsError → MethodPlan A}
      → covered p ≡ false → ((k : Handle) → Sparing covered G E whole P (Some (k.made, p)) (go (Ok k))) → ((e : FsError) → Sparing covered G E whole P None (go (Err e)))
      → Sparing covered G E whole P None (Ask (Open p how now) go)
  spares_seeks : {file : Option OpenFile} {k : Handle} {to : SeekFrom} {go : Result (ℕ × Handle) FsError → MethodPlan A}
      → ((place : ℕ) (j : Handle) → j.made ≡ k.made → Sparing covered G E whole P file (go (Ok (place, j)))) → ((e : FsError) → Sparing covered G E whole P file (go (Err e)))
      → Sparing covered G E whole P file (Ask (Seek k to) go)
  spares_writes : {file : OpenFile} {k : Handle} {bytes : List ℕ} {now : ℕ} {go : Result Handle FsError → MethodPlan A}
      → k.made ≡ file.0 → covered file.1 ≡ false → ((answer : Result Handle FsError) → Sparing covered G E whole P (Some file) (go answer))
      → Sparing covered G E whole P (Some file) (Ask (Write k bytes now) go)
  spares_look : {file : Option OpenFile} {go : Locks → MethodPlan A} → ((ls : List Lock) → G ls → Sparing covered G E whole P file (go (Some ls))) → Sparing covered G E whole P file (Look go)
  spares_keep : {file : Option OpenFile} {locks : List Lock} {rest : MethodPlan A} → G locks → Sparing covered G E whole P file rest → Sparing covered G E whole P file (Keep locks rest)
  spares_last : {file : Option OpenFile} {locks : List Lock} {r : Result A DavError} → whole ≡ true → E locks → Sparing covered G E whole P file (Keep locks (Done r))

-- anything may be given, with any file open
abbrev pub Anything : {A : Type 0} → Option OpenFile → A → Type 0
Anything file a = ⊤

-- any list of locks
abbrev pub AnyList : List Lock → Type 0
AnyList ls = ⊤

-- A whole plan that spares what a lock covers, as long as the lock is in the list (RFC 4918, section 7).
abbrev pub SparesLock : Lock → MethodPlan Reply → Type 0
SparesLock h plan = Sparing (covers h) (IsListed h) AnyList true Anything None plan

-- A whole plan that spares what a guard covers, as long as the lock guards its folder; after the plan the lock still does, or
-- isn't in the list (RFC 4918, section 7).
abbrev pub SparesGuard : Lock → MethodPlan Reply → Type 0
SparesGuard h plan = Sparing (covers h) (Guards h) (StillGuards h) true Anything None plan

-- The content at these paths is the same before and after, and what was a folder above one of them still is one.
pub record Spared (covered : Path → Bool) (w v : World) : Type 0 where
  pub same : (q : Path) → covered q ≡ true → option_map content_of (node_at w q) ≡ option_map content_of (node_at v q)
  pub above : (p q : Path) → is_under q p ≡ true → covered q ≡ true → is_folder w p ≡ true → is_folder v p ≡ true

-- A plan that spares what a lock covers leaves the content there, whatever else is in the list of locks, whatever the store
-- refuses, and where the store runs out of memory (RFC 4918, section 7).
abbrev pub SparingLeavesCovered : Type 0
SparingLeavesCovered =
    (h : Lock) (plan : MethodPlan Reply) (old new : StoreState) (ls ms : Locks) (a : Result Reply DavError)
    → SparesLock h plan → IsProperPlan plan → Ran Asks plan old ls a new ms
    → Stands h ls → IsWorld old.world → Spared (covers h) old.world new.world

-- A plan that spares what a lock covers leaves the content there also where memory runs out in the plan (RFC 4918, section 7).
abbrev pub SparingLeavesCoveredCut : Type 0
SparingLeavesCoveredCut =
    (h : Lock) (plan : MethodPlan Reply) (old new : StoreState) (ls ms : Locks)
    → SparesLock h plan → IsProperPlan plan → Cut Asks ls plan old ls new ms
    → Stands h ls → IsWorld old.world → Spared (covers h) old.world new.world

-- What the request of another client leaves of a guarded folder: its content is the same, there are folders above it, and it is
-- still guarded if the lock is in the list. The world is still one, and has taken no fewer change numbers.
pub record LeftAlone (h : Lock) (w v : World) (ms : Locks) : Type 0 where
  pub same : SameInside (folder_of h) w v
  pub above : HasFoldersAbove (folder_of h) v
  pub guarded : Stands h ms → Guarded h ms
  pub world : IsWorld v
  pub next : w.next ≤ v.next

-- A plan that spares a guard's folder leaves what is inside, whatever the store refuses and where it runs out of memory; and
-- the folder stays guarded as long as the lock is in the list (RFC 4918, section 7).
abbrev pub SparingLeavesInside : Type 0
SparingLeavesInside =
    (h : Lock) (plan : MethodPlan Reply) (old new : StoreState) (ls ms : Locks) (a : Result Reply DavError)
    → IsGuard h → SparesGuard h plan → IsProperPlan plan → Ran Asks plan old ls a new ms
    → Guarded h ls → HasFoldersAbove (folder_of h) old.world → IsWorld old.world → LeftAlone h old.world new.world ms
