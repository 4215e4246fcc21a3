-- Laws: what a copy, a COPY and a MOVE leave (RFC 4918, sections 9.8 and 9.9).
use Rattle.std.specs.Prelude.{◌≡◌, ◌≢◌, ℕ, ◌^◌, ◌≤◌, length, ◌++◌, ◌&&◌, ◌||◌, ◌⊎◌, Bool, true, false, List, [], ◌∷◌, map, All, if◌then◌else◌, Some, None, Ok, Err}
use Rattle.std.specs.List.{list_any}
use Rattle.std.specs.Option.{option_map}
use Rattle.std.specs.Result.{is_ok}
use Rattle.dav_core.specs.declared.errors.DavError.{DavError}
use Rattle.dav_core.specs.declared.errors.FsError.{FsError}
use Rattle.dav_core.specs.declared.method.DavMethod.{DavMethod}
use Rattle.dav_core.specs.Asking.{StoreState, Asks}
use Rattle.dav_core.specs.CallLaws.{IsStorable}
use Rattle.dav_core.specs.Locks.{deleted}
use Rattle.dav_core.specs.Path.{Path, PathText, names, star, is_at_or_under}
use Rattle.dav_core.specs.Property.{Properties}
use Rattle.dav_core.specs.Status.{fs_status}
use Rattle.dav_core.specs.World.{World, Node, node_at, is_folder_kind, is_folder, is_missing, last_moment, IsWorld}
use Rattle.dav_headers.specs.declared.depth.Depth.TheVariants.{Zero}
use Rattle.dav_engine.specs.Caller.{Caller}
use Rattle.dav_engine.specs.Copied.{IsPlain}
use Rattle.dav_engine.specs.Copying.{CopyFault, copy_report, copying}
use Rattle.dav_engine.specs.CopyMove.{CopyHeaders, is_move, copy_reply, copy_or_move}
use Rattle.dav_engine.specs.Folder.{closed}
use Rattle.dav_engine.specs.Multistatus.{multi_reply, status_reply}
use Rattle.dav_engine.specs.Plan.{Locks, CallStep, Ran}
use Rattle.dav_engine.specs.Removal.{Fault, report_of}
use Rattle.dav_engine.specs.RemovalLaws.{timeless, timeless_at, LeavesSurvivors}
use Rattle.dav_engine.specs.Reply.{Reply}

-- Whether a fault names this path, or one above it.
abbrev pub is_below_fault : List CopyFault → Path → Bool
is_below_fault faults q = list_any (λ f. is_at_or_under q (names f.0)) faults

-- The dead properties of a copy: those of a file; a folder's aren't copied, though RFC 4918, section 9.8.2, says that they should be.
abbrev pub copied_properties : Node → Properties
copied_properties n = if is_folder_kind n.kind then [] else n.properties

-- m is a copy, made after the world w, of n: a folder without dead properties, or a file with the same bytes and dead
-- properties. It has a new change number (RFC 4918, sections 9.8.1 to 9.8.3).
pub record IsCopied (w : World) (n m : Node) : Type 0 where
  pub kind : m.kind ≡ n.kind
  pub properties : m.properties ≡ copied_properties n
  pub number : w.next ≤ m.number

-- m is a copy of what was at p, and p isn't d or below it.
abbrev pub IsCopyFrom : World → Path → Path → Node → Type 0
IsCopyFrom w p d m = (n : Node) × (node_at w p ≡ Some n) × (is_at_or_under p d ≡ false) × IsCopied w n m

-- What a copy of s, with everything below it, to d left, with these faults. Nothing changed but at d and below it, except for
-- times. What was at s or below it, and isn't at d or below it, has its copy at the same place of d, unless a fault names it or
-- its place, or what is above them. Whatever else is at d or below it was there. And each fault names what is at s or d, or
-- below them (RFC 4918, section 9.8.3).
pub record LeavesCopies (s d : Path) (faults : List CopyFault) (old new : World) : Type 0 where
  pub elsewhere : (q : Path) → is_at_or_under q d ≡ false → timeless_at new q ≡ timeless_at old q
  pub copied : (rest : Path) (n : Node) → node_at old (s ++ rest) ≡ Some n → is_at_or_under (s ++ rest) d ≡ false
      → (is_below_fault faults (s ++ rest) || is_below_fault faults (d ++ rest)) ≡ false
      → (m : Node) × (node_at new (d ++ rest) ≡ Some m) × IsCopied old n m
  pub came : (rest : Path) (m : Node) → node_at new (d ++ rest) ≡ Some m
      → (timeless_at old (d ++ rest) ≡ Some (timeless m)) ⊎ IsCopyFrom old (s ++ rest) d m
  pub below : All (λ f. (is_at_or_under (names f.0) s || is_at_or_under (names f.0) d) ≡ true) faults

-- What is at d or below it is a copy of what was at the same place of s.
abbrev pub OnlyCopies : Path → Path → World → World → Type 0
OnlyCopies s d old new = (rest : Path) (m : Node) → node_at new (d ++ rest) ≡ Some m → IsCopyFrom old (s ++ rest) d m

-- A copy to a path that isn't the source or above it leaves copies, and no others where nothing was there, whatever the store refuses,
-- also where the path is below the source; and it leaves the list of locks. Both paths are cut after the same prefix (RFC 4918, section 9.8.3).
abbrev pub CopiesLeaveCopies : Type 0
CopiesLeaveCopies =
    (now : ℕ) (s d : PathText) (old new : StoreState) (ls ms : Locks) (faults : List CopyFault)
    → IsWorld old.world → now ≤ last_moment → s.prefix ≡ d.prefix → IsPlain s → IsPlain d → IsStorable (names d)
    → is_at_or_under (names s) (names d) ≡ false → Ran Asks (copying true now d s d) old ls (Ok faults) new ms
    → LeavesCopies (names s) (names d) faults old.world new.world × (ms ≡ ls)
    × (is_missing old.world (names d) ≡ true → OnlyCopies (names s) (names d) old.world new.world)

-- ---- a whole COPY

-- What a COPY of p, with everything below it, to d left, where a reply ends it. Either something that was at d wasn't removed:
-- the reply reports it, and nothing else changed. Or what was found at d, if anything was, was removed, so that only copies are
-- there, unless the store didn't report what was there; the reply reports the faults of the copy, or 204 or 201; and the locks
-- at d and below it are gone where something was found there (RFC 4918, sections 9.8.4 and 9.8.5).
pub data CopyLeaves (p d : PathText) (old new : StoreState) (ls ms : Locks) (r : Reply) : Type 0 where
  not_cleared : (f : Fault) (faults : List Fault) → LeavesSurvivors (names d) (f ∷ faults) old.world new.world
      → Ok r ≡ multi_reply (closed (is_folder old.world (names p)) p) (map report_of (f ∷ faults)) → ms ≡ ls → CopyLeaves p d old new ls ms r
  has_copied : (found : Bool) (faults : List CopyFault) → LeavesCopies (names p) (names d) faults old.world new.world
      → (found ≡ true → is_missing old.world (names d) ≡ false)
      → ((found || is_missing old.world (names d)) ≡ true → OnlyCopies (names p) (names d) old.world new.world)
      → Ok r ≡ copy_reply (closed (is_folder old.world (names p)) p) (if found then 204 else 201) faults
      → ms ≡ (if found then option_map (deleted (names d)) ls else ls) → CopyLeaves p d old new ls ms r

-- A COPY without Depth, or of infinite depth, leaves what `CopyLeaves` says, whatever the store refuses. Its destination is cut
-- after the same prefix as its path (RFC 4918, sections 9.8.3 to 9.8.5).
abbrev pub CopyLeavesCopies : Type 0
CopyLeavesCopies =
    (m : DavMethod) (h : CopyHeaders) (p d : PathText) (who : Caller) (old new : StoreState) (ls ms : Locks) (r : Reply)
    → IsWorld old.world → who.moment ≤ last_moment → is_move m ≡ false → h.depth ≢ Some Zero → h.destination ≡ Ok d
    → IsPlain p → IsPlain d → IsStorable (names d) → p.prefix ≡ d.prefix
    → Ran Asks (copy_or_move m h p who) old ls (Ok r) new ms → CopyLeaves p d old new ls ms r

-- ---- a COPY at Depth 0

-- At the path q the world is as it was, but for times; where what was at d was removed, nothing is at d or below it.
abbrev pub IsWithout : Bool → Path → World → World → Path → Type 0
IsWithout removed d old new q = timeless_at new q ≡ (if removed && is_at_or_under q d then None else timeless_at old q)

-- What was found at d, and whether it was removed: only what is there was found, and only a file was removed.
pub record IsFoundAt (d : Path) (w : World) (found removed : Bool) : Type 0 where
  pub there : found ≡ true → is_missing w d ≡ false
  pub file : removed ≡ true → (found ≡ true) × (is_folder w d ≡ false)

-- The list of locks, without those at d and below it where what was there was removed.
abbrev pub locks_without : Bool → Path → Locks → Locks
locks_without removed d ls = if removed then option_map (deleted d) ls else ls

-- What a COPY of p at Depth 0 to d left, where a reply ends it. Either a file that was at d wasn't removed: the reply reports
-- it, and nothing changed. Or a file that was found at d, if one was, was removed, and then: a copy of what was at p is at d, a
-- folder without what was in it, and nothing else changed; or the store answered for a folder that something is at d, and
-- nothing more changed; or it refused the copy, which the reply reports, and nothing more changed
-- (RFC 4918, sections 9.8.3 to 9.8.5).
pub data CopyLeavesOne (p d : PathText) (old new : StoreState) (ls ms : Locks) (r : Reply) : Type 0 where
  file_stays : (f : Fault) (faults : List Fault) → LeavesSurvivors (names d) (f ∷ faults) old.world new.world
      → Ok r ≡ multi_reply (closed (is_folder old.world (names p)) p) (map report_of (f ∷ faults)) → ms ≡ ls → CopyLeavesOne p d old new ls ms r
  one_copied : (found removed : Bool) (n m : Node) → IsFoundAt (names d) old.world found removed
      → node_at old.world (names p) ≡ Some n → node_at new.world (names d) ≡ Some m → IsCopied old.world n m
      → ((q : Path) → q ≢ names d → IsWithout removed (names d) old.world new.world q)
      → r ≡ status_reply (if found then 204 else 201) → ms ≡ locks_without removed (names d) ls → CopyLeavesOne p d old new ls ms r
  folder_there : (found removed : Bool) → IsFoundAt (names d) old.world found removed → is_folder old.world (names p) ≡ true
      → ((q : Path) → IsWithout removed (names d) old.world new.world q)
      → r ≡ status_reply (if found then 204 else 201) → ms ≡ locks_without removed (names d) ls → CopyLeavesOne p d old new ls ms r
  not_copied : (found removed : Bool) (f : CopyFault) → IsFoundAt (names d) old.world found removed
      → ((f.0 ≡ closed (is_folder old.world (names p)) p) ⊎ (f.0 ≡ d))
      → ((q : Path) → IsWithout removed (names d) old.world new.world q)
      → Ok r ≡ multi_reply (closed (is_folder old.world (names p)) p) (copy_report f ∷ []) → ms ≡ locks_without removed (names d) ls → CopyLeavesOne p d old new ls ms r

-- A COPY at Depth 0 leaves what `CopyLeavesOne` says, whatever the store refuses. Its destination is cut after the same prefix
-- as its path (RFC 4918, sections 9.8.3 to 9.8.5).
abbrev pub CopyLeavesOneCopy : Type 0
CopyLeavesOneCopy =
    (m : DavMethod) (h : CopyHeaders) (p d : PathText) (who : Caller) (old new : StoreState) (ls ms : Locks) (r : Reply)
    → IsWorld old.world → who.moment ≤ last_moment → is_move m ≡ false → h.depth ≡ Some Zero → h.destination ≡ Ok d
    → IsPlain p → IsPlain d → p.prefix ≡ d.prefix
    → Ran Asks (copy_or_move m h p who) old ls (Ok r) new ms → CopyLeavesOne p d old new ls ms r

-- ---- without a refusal

-- A call is answered, and neither refused nor short of memory.
abbrev pub AnswersAll : CallStep
AnswersAll c old answer new = Asks c old answer new × (is_ok answer ≡ true)

-- A copy of which no call is refused, neither by the list of refusals nor by the call's own rules, copies all: what it reports
-- are paths of 2^64 names or more, and no path that memory can hold has so many (RFC 4918, section 9.8.3).
abbrev pub UnrefusedCopiesCopyAll : Type 0
UnrefusedCopiesCopyAll =
    (deep : Bool) (now : ℕ) (s d : PathText) (old new : StoreState) (ls ms : Locks) (faults : List CopyFault)
    → IsWorld old.world → now ≤ last_moment → IsPlain s → IsPlain d → IsStorable (names d)
    → Ran AnswersAll (copying deep now d s d) old ls (Ok faults) new ms → All (λ f. 2 ^ 64 ≤ length (names f.0)) faults

-- ---- a whole MOVE

-- What a move of s to d left: what was at s or below it is at the same place of d, with its change numbers and the same but for
-- times; nothing is at s or below it; and nothing changed elsewhere, except for times (RFC 4918, section 9.9).
pub record LeavesMoved (s d : Path) (old new : World) : Type 0 where
  pub arrived : (rest : Path) → timeless_at new (d ++ rest) ≡ timeless_at old (s ++ rest)
  pub gone : (q : Path) → is_at_or_under q s ≡ true → timeless_at new q ≡ None
  pub elsewhere : (q : Path) → is_at_or_under q s ≡ false → is_at_or_under q d ≡ false → timeless_at new q ≡ timeless_at old q

-- What a MOVE of p to d left, where a reply ends it. Either something that was at d wasn't removed: the reply reports it, and
-- nothing else changed. Or what was found at d, if anything was, was removed. Then all was moved, and the locks at p and below
-- it are gone, and where something was found at d those there and below it; or the store refused to move, which the reply
-- reports, and all but what was removed is as it was (RFC 4918, sections 7.6 and 9.9).
pub data MoveLeaves (p d : PathText) (old new : StoreState) (ls ms : Locks) (r : Reply) : Type 0 where
  not_cleared_for : (f : Fault) (faults : List Fault) → LeavesSurvivors (names d) (f ∷ faults) old.world new.world
      → Ok r ≡ multi_reply (closed (is_folder old.world (names p)) p) (map report_of (f ∷ faults)) → ms ≡ ls → MoveLeaves p d old new ls ms r
  has_moved : (found : Bool) → LeavesMoved (names p) (names d) old.world new.world
      → (found ≡ true → is_missing old.world (names d) ≡ false) → r ≡ status_reply (if found then 204 else 201)
      → ms ≡ option_map (deleted (names p)) (if found then option_map (deleted (names d)) ls else ls) → MoveLeaves p d old new ls ms r
  not_moved : (found : Bool) (e : FsError)
      → ((q : Path) → timeless_at new.world q ≡ (if found && is_at_or_under q (names d) then None else timeless_at old.world q))
      → Ok r ≡ multi_reply (closed (is_folder old.world (names p)) p) ((closed (is_folder old.world (names p)) p, fs_status e) ∷ [])
      → ms ≡ (if found then option_map (deleted (names d)) ls else ls) → MoveLeaves p d old new ls ms r

-- Each MOVE leaves what `MoveLeaves` says, whatever the store refuses (RFC 4918, sections 7.6 and 9.9).
abbrev pub MoveLeavesMoved : Type 0
MoveLeavesMoved =
    (m : DavMethod) (h : CopyHeaders) (p d : PathText) (who : Caller) (old new : StoreState) (ls ms : Locks) (r : Reply)
    → IsWorld old.world → who.moment ≤ last_moment → is_move m ≡ true → h.destination ≡ Ok d → p.bytes ≢ star → IsPlain d
    → Ran Asks (copy_or_move m h p who) old ls (Ok r) new ms → MoveLeaves p d old new ls ms r

-- An error of a COPY or MOVE leaves the world and the list of locks as they are (RFC 4918, sections 9.8 and 9.9).
abbrev pub RefusedCopyMoveLeavesAll : Type 0
RefusedCopyMoveLeavesAll =
    (m : DavMethod) (h : CopyHeaders) (p : PathText) (who : Caller) (old new : StoreState) (ls ms : Locks) (e : DavError)
    → Ran Asks (copy_or_move m h p who) old ls (Err e) new ms → (new.world ≡ old.world) × (ms ≡ ls)
