-- Laws: what a removal and a DELETE leave (RFC 4918, section 9.6.1).
use Rattle.std.specs.Prelude.{◌≡◌, ◌≢◌, ℕ, ◌≤◌, ◌&&◌, ◌||◌, Bool, true, not, List, [], ◌∷◌, All, if◌then◌else◌, Option, None, Ok, Err}
use Rattle.std.specs.List.{list_any}
use Rattle.std.specs.Option.{option_map}
use Rattle.dav_core.specs.declared.errors.DavError.{DavError}
use Rattle.dav_core.specs.Asking.{StoreState, Asks}
use Rattle.dav_core.specs.Locks.{deleted}
use Rattle.dav_core.specs.Path.{Path, PathText, names, star, parent_of, is_same_path, is_at_or_under}
use Rattle.dav_core.specs.World.{World, Node, node_at, is_folder, IsWorld}
use Rattle.dav_engine.specs.Caller.{Caller}
use Rattle.dav_engine.specs.Delete.{DeleteHeaders, delete, delete_reply}
use Rattle.dav_engine.specs.Folder.{closed}
use Rattle.dav_engine.specs.Plan.{Locks, Ran}
use Rattle.dav_engine.specs.Removal.{Fault, fault_path, report_of, removal, survives, is_withheld_by}
use Rattle.dav_engine.specs.Reply.{Reply}

-- A node without its times.
abbrev pub timeless : Node → Node
timeless n = record n { created = 0; modified = 0 }

-- What is at a path, but for its times.
abbrev pub timeless_at : World → Path → Option Node
timeless_at w q = option_map timeless (node_at w q)

-- Whether a fault names this path.
abbrev pub is_fault_path : List Fault → Path → Bool
is_fault_path faults q = list_any (λ f. is_same_path q (names (fault_path f))) faults

-- Whether a fault withholds this path from the removal.
abbrev pub is_withheld : List Fault → Path → Bool
is_withheld faults q = list_any (is_withheld_by q) faults

-- What a removal of p with these faults left: what was at p or below it is there exactly where it survives, and all else is as
-- it was, but for times. Each fault names p or a path below it; and the parent of what is withheld is named or withheld too
-- (RFC 4918, section 9.6.1).
pub record LeavesSurvivors (p : Path) (faults : List Fault) (old new : World) : Type 0 where
  pub after : (q : Path)
      → timeless_at new q ≡ (if is_at_or_under q p && not (survives faults q) then None else timeless_at old q)
  pub below : All (λ f. is_at_or_under (names (fault_path f)) p ≡ true) faults
  pub parents : (q : Path) → is_withheld faults q ≡ true
      → (is_fault_path faults (parent_of q) || is_withheld faults (parent_of q)) ≡ true

-- A removal leaves exactly what survives its faults, whatever the store refuses (RFC 4918, section 9.6.1).
abbrev pub RemovalsLeaveSurvivors : Type 0
RemovalsLeaveSurvivors =
    (deep : Bool) (now : ℕ) (p : PathText) (old new : StoreState) (ls ms : Locks) (faults : List Fault)
    → IsWorld old.world → p.bytes ≢ star
    → Ran Asks (removal deep now p (is_folder old.world (names p))) old ls (Ok faults) new ms
    → LeavesSurvivors (names p) faults old.world new.world

-- Each path that a removal of what is there reports is there afterwards (RFC 4918, section 9.6.1).
abbrev pub ReportedAreThere : Type 0
ReportedAreThere =
    (deep : Bool) (now : ℕ) (p : PathText) (old new : StoreState) (ls ms : Locks) (faults : List Fault)
    → IsWorld old.world → p.bytes ≢ star → node_at old.world (names p) ≢ None
    → Ran Asks (removal deep now p (is_folder old.world (names p))) old ls (Ok faults) new ms
    → All (λ f. node_at new.world (names (fault_path f)) ≢ None) faults

-- The list of locks after a DELETE: where nothing stays, those at the path and below it are gone (RFC 4918, section 9.6).
abbrev pub locks_after : Path → List Fault → Locks → Locks
locks_after p (f ∷ faults) ls = ls
locks_after p [] ls = option_map (deleted p) ls

-- The status with which a fault is reported is an error (RFC 9110, sections 15.5 and 15.6).
abbrev pub IsErrorReport : Fault → Type 0
IsErrorReport f = 400 ≤ (report_of f).1

-- The status with which each fault is reported is an error (RFC 9110, sections 15.5 and 15.6).
abbrev pub AreErrorReports : List Fault → Type 0
AreErrorReports faults = All IsErrorReport faults

-- What a DELETE of p with these faults left: what survives them. The reply reports them as errors, something is at each path
-- that it reports, and the locks at p and below it are gone exactly where there are no faults (RFC 4918, section 9.6).
pub record DeleteLeaves (p : PathText) (faults : List Fault) (old new : StoreState) (ls ms : Locks) (r : Reply) : Type 0 where
  pub survivors : LeavesSurvivors (names p) faults old.world new.world
  pub errors : AreErrorReports faults
  pub there : All (λ f. node_at new.world (names (fault_path f)) ≢ None) faults
  pub reply : Ok r ≡ delete_reply (closed (is_folder old.world (names p)) p) faults
  pub locks : ms ≡ locks_after (names p) faults ls

-- a DELETE that isn't ended by an error leaves the survivors that its reply reports (RFC 4918, section 9.6)
abbrev pub DeletesLeaveSurvivors : Type 0
DeletesLeaveSurvivors =
    (h : DeleteHeaders) (p : PathText) (who : Caller) (old new : StoreState) (ls ms : Locks) (r : Reply)
    → IsWorld old.world → p.bytes ≢ star → Ran Asks (delete h p who) old ls (Ok r) new ms
    → (faults : List Fault) × DeleteLeaves p faults old new ls ms r

-- After a DELETE that is answered 204 nothing is at its path or below it (RFC 4918, section 9.6).
abbrev pub NoContentMeansGone : Type 0
NoContentMeansGone =
    (h : DeleteHeaders) (p : PathText) (who : Caller) (old new : StoreState) (ls ms : Locks) (r : Reply) (q : Path)
    → IsWorld old.world → p.bytes ≢ star → Ran Asks (delete h p who) old ls (Ok r) new ms
    → r.status ≡ 204 → is_at_or_under q (names p) ≡ true → node_at new.world q ≡ None

-- An error of a DELETE leaves the world and the list of locks as they are (RFC 4918, section 9.6).
abbrev pub RefusedDeleteLeavesAll : Type 0
RefusedDeleteLeavesAll =
    (h : DeleteHeaders) (p : PathText) (who : Caller) (old new : StoreState) (ls ms : Locks) (e : DavError)
    → Ran Asks (delete h p who) old ls (Err e) new ms → (new.world ≡ old.world) × (ms ≡ ls)
