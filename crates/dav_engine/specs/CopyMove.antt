-- COPY and MOVE (RFC 4918, sections 9.8 and 9.9).
use Rattle.std.specs.Prelude.{◌≢◌, ℕ, ◌||◌, Bool, true, false, not, List, [], ◌∷◌, map, codes, if◌then◌else◌, Option, Some, None, Result, Ok, Err}
use Rattle.std.specs.Option.{is_some, is_none, unwrap_or}
use Rattle.std.specs.Result.{is_ok, result_ok}
use Rattle.http_header.specs.FieldValue.{FieldValue}
use Rattle.http_header.specs.HeaderMap.{get_all}
use Rattle.dav_core.specs.declared.errors.ParseError.{ParseError}
use Rattle.dav_core.specs.declared.errors.ParseError.TheVariants as parse
use Rattle.dav_core.specs.declared.errors.DavError.{DavError}
use Rattle.dav_core.specs.declared.errors.DavError.TheVariants as dav
use Rattle.dav_core.specs.declared.fs.DavMetaData.{DavMetaData}
use Rattle.dav_core.specs.declared.method.DavMethod.{DavMethod}
use Rattle.dav_core.specs.declared.method.DavMethod.TheVariants.{Move}
use Rattle.dav_core.specs.Asking.{Metadata}
use Rattle.dav_core.specs.Locks.{Requester}
use Rattle.dav_core.specs.Path.{PathText, names, parent_of, is_at_or_under, IsCut, HasNoCut, without_slash}
use Rattle.dav_core.specs.Status.{path_error}
use Rattle.dav_core.specs.Target.{Reads, IsRefused}
use Rattle.dav_headers.specs.Depth.{IsDepth}
use Rattle.dav_headers.specs.Destination.{IsDestination}
use Rattle.dav_headers.specs.Overwrite.{IsOverwrite}
use Rattle.dav_headers.specs.declared.depth.Depth.{Depth}
use Rattle.dav_headers.specs.declared.depth.Depth.TheVariants.{Zero}
use Rattle.dav_engine.specs.Caller.{Caller, requester}
use Rattle.dav_engine.specs.Conditions.{Conditions, AreConditions, guarded}
use Rattle.dav_engine.specs.Copying.{CopyFault, copy_report, copying, renaming}
use Rattle.dav_engine.specs.Delete.{whole_depth}
use Rattle.dav_engine.specs.Folder.{closed, is_folder_found}
use Rattle.dav_engine.specs.Headers.{Headers, Decodes}
use Rattle.dav_engine.specs.Method.{MethodPlan, ◌>>=◌, require, require_free, require_parent, drop_locks, answer_of, ask_for, gives}
use Rattle.dav_engine.specs.Multistatus.{status_reply, multi_reply}
use Rattle.dav_engine.specs.Plan.{Done}
use Rattle.dav_engine.specs.Removal.{Fault, report_of, removal}
use Rattle.dav_engine.specs.Reply.{Reply}

-- ---- what the headers say

-- What the headers of a COPY or MOVE say: its conditions; its depth; whether it may overwrite; and its destination, or the
-- error that answers the request instead (RFC 4918, sections 10.2, 10.3 and 10.6).
pub record CopyHeaders : Type 0 where
  pub conditions : Conditions
  pub depth : Option Depth
  pub overwrite : Option Bool
  pub destination : Result PathText DavError

-- What Destination names, read as the target of a request is read (RFC 4918, section 10.3): a path at or below the prefix. Or
-- the error: 400 without the header, that of a text that isn't read as a path, or 502 (`IllegalPath`) for a path outside the
-- prefix.
pub data DestinationNames (prefix : List ℕ) (values : List FieldValue) : Result PathText DavError → Type 0 where
  absent : ((text : List ℕ) → ¬ IsDestination values text) → DestinationNames prefix values (Err (dav.Status 400))
  unreadable : (text : List ℕ) {e : ParseError} → IsDestination values text → IsRefused text e → e ≢ parse.Memory → DestinationNames prefix values (Err (path_error e))
  outside : (text bytes : List ℕ) → IsDestination values text → Reads text bytes → HasNoCut (without_slash prefix) bytes → DestinationNames prefix values (Err dav.IllegalPath)
  inside : (text bytes : List ℕ) {d : PathText} → IsDestination values text → Reads text bytes → IsCut (without_slash prefix) bytes d → DestinationNames prefix values (Ok d)

-- What the headers of a COPY or MOVE of p say; but for Destination, a header that doesn't decode counts as absent
-- (RFC 4918, sections 10.2, 10.3 and 10.6).
pub record AreCopyHeaders (headers : Headers) (p : PathText) (h : CopyHeaders) : Type 0 where
  pub conditions : AreConditions headers p.prefix (names p) h.conditions
  pub depth : Decodes IsDepth (get_all headers (codes "depth")) h.depth
  pub overwrite : Decodes IsOverwrite (get_all headers (codes "overwrite")) h.overwrite
  pub destination : DestinationNames p.prefix (get_all headers (codes "destination")) h.destination

-- ---- the checks before anything changes

-- Whether the method is MOVE.
abbrev pub is_move : DavMethod → Bool
is_move Move = true
is_move _ = false

-- Whether a COPY or MOVE is of everything below its source too: at Depth 0 a COPY isn't. 400 for Depth 1, and for a MOVE at
-- Depth 0 (RFC 4918, sections 9.8.3 and 9.9.2).
abbrev pub copy_depth : Bool → Option Depth → Result Bool DavError
copy_depth true (Some Zero) = Err (dav.Status 400)
copy_depth moves depth = whole_depth depth

-- What is found at the destination; what the store doesn't report counts as missing. 409 where no folder is above it; 412 where
-- something is there and Overwrite is `F` (RFC 4918, sections 9.8.4 and 9.8.5).
abbrev pub destination_found : Option Bool → PathText → MethodPlan (Option DavMetaData)
destination_found overwrite d = do
  above ← answer_of (Metadata (parent_of (names d)))
  _ ← require (is_folder_found (result_ok above)) (dav.Status 409)
  there ← answer_of (Metadata (names d))
  _ ← require (unwrap_or overwrite true || not (is_ok there)) (dav.Status 412)
  gives (result_ok there)

-- For a MOVE, which takes away what is at its source and below it: 423 where a lock conflicts there (RFC 4918, section 7.5).
abbrev pub source_free : Bool → Caller → List (List ℕ) → PathText → MethodPlan (Unit {0})
source_free true who tokens p = require_free true (requester who tokens) (names p) (dav.Status 423)
source_free false who tokens p = gives tt

-- whether what was found at the destination is removed: at Depth 0 a folder stays (RFC 4918, section 9.8.4)
abbrev pub is_replaced : Bool → Option DavMetaData → Bool
is_replaced deep None = false
is_replaced deep (Some m) = deep || not m.dir

-- Whether the destination's folder gets or loses a member: by a MOVE; by a COPY where nothing was found at the destination, or
-- what was found is replaced (RFC 4918, section 7.4).
abbrev pub changes_members : Bool → Bool → Option DavMetaData → Bool
changes_members moves deep there = moves || is_none there || is_replaced deep there

-- 423 where a lock conflicts, for a MOVE at the source or below it, and for both at the destination or below it (RFC 4918, section 7.5)
abbrev pub paths_free : Bool → Caller → List (List ℕ) → PathText → PathText → MethodPlan (Unit {0})
paths_free moves who tokens p d = do
  _ ← source_free moves who tokens p
  require_free true (requester who tokens) (names d) (dav.Status 423)

-- 423 where a lock conflicts on the folder above the source, from which a MOVE takes a member, or on the folder above the
-- destination, where that gets or loses one (RFC 4918, section 7.4).
abbrev pub folders_free : Bool → Bool → Requester → PathText → PathText → MethodPlan (Unit {0})
folders_free moves changes who p d = do
  _ ← require_parent moves who (names p) (dav.Status 423)
  require_parent changes who (names d) (dav.Status 423)

-- Whether conditions and locks let the request go on: 412 where a condition on the source fails, 423 where a lock conflicts
-- (RFC 4918, sections 7.4, 7.5 and 9.8.5).
abbrev pub copy_free : DavMethod → Bool → Conditions → PathText → PathText → Caller → DavMetaData → Option DavMetaData → MethodPlan (Unit {0})
copy_free m deep c p d who found there = do
  tokens ← guarded dav.Status m c (Some found)
  _ ← paths_free (is_move m) who tokens p d
  folders_free (is_move m) (changes_members (is_move m) deep there) (requester who tokens) p d

-- The checks before anything changes; gives what is found at the destination. 403 where the destination is the source itself,
-- or above it: to overwrite it would destroy the source (RFC 4918, sections 9.8.5 and 9.9.4).
abbrev pub copy_allowed : DavMethod → Bool → CopyHeaders → PathText → PathText → Caller → DavMetaData → MethodPlan (Option DavMetaData)
copy_allowed m deep h p d who found = do
  there ← destination_found h.overwrite d
  _ ← require (not (is_at_or_under (names p) (names d))) (dav.Status 403)
  _ ← copy_free m deep h.conditions p d who found there
  gives there

-- ---- what is at the destination is removed

-- Removes what was found at the destination, if it is to be replaced, with everything below it as a DELETE does (RFC 4918, section 9.8.4).
abbrev pub clearing : Bool → ℕ → PathText → Option DavMetaData → MethodPlan (List Fault)
clearing deep now d there = if is_replaced deep there then removal true now d (is_folder_found there) else gives []

-- Ends the locks at the destination and below it, where what was there was removed (RFC 4918, section 9.6).
abbrev pub drop_if : Bool → PathText → MethodPlan (Unit {0})
drop_if true p = drop_locks (names p)
drop_if false p = gives tt

-- ---- the copy or the move

-- Ends the locks at the source and below it, where all of it was moved: locks don't move along (RFC 4918, section 7.6).
abbrev pub drop_if_moved : PathText → List CopyFault → MethodPlan (Unit {0})
drop_if_moved p [] = drop_locks (names p)
drop_if_moved p (f ∷ faults) = gives tt

-- Moves, and then ends the locks at the source; or copies (RFC 4918, sections 7.6, 9.8 and 9.9).
abbrev pub transfer : Bool → Bool → ℕ → PathText → PathText → MethodPlan (List CopyFault)
transfer true deep now p d = do
  faults ← renaming now p d
  _ ← drop_if_moved p faults
  gives faults
transfer false deep now p d = copying deep now d p d

-- The status where all was done: 204 where something was at the destination, else 201 (RFC 4918, sections 9.8.5 and 9.9.4).
abbrev pub copied_status : Option DavMetaData → ℕ
copied_status there = if is_some there then 204 else 201

-- the reply: this status where all was done, else what wasn't is reported (RFC 4918, sections 9.8.5 and 9.9.4)
abbrev pub copy_reply : PathText → ℕ → List CopyFault → Result Reply DavError
copy_reply p status [] = Ok (status_reply status)
copy_reply p status (f ∷ faults) = multi_reply p (map copy_report (f ∷ faults))

-- moves or copies, and replies
abbrev pub transfer_reply : Bool → Bool → ℕ → PathText → PathText → ℕ → MethodPlan Reply
transfer_reply moves deep now p d status = do
  faults ← transfer moves deep now p d
  Done (copy_reply p status faults)

-- Moves or copies where the destination was cleared. Where something stays there, the reply reports that, and the source stays
-- as it is (RFC 4918, sections 9.8.5 and 9.9.4).
abbrev pub transfer_if_cleared : Bool → Bool → ℕ → PathText → PathText → Option DavMetaData → List Fault → MethodPlan Reply
transfer_if_cleared moves deep now p d there (f ∷ faults) = Done (multi_reply p (map report_of (f ∷ faults)))
transfer_if_cleared moves deep now p d there [] = do
  _ ← drop_if (is_replaced deep there) d
  transfer_reply moves deep now p d (copied_status there)

-- a COPY or MOVE of what was found at a path
abbrev pub copy_found : DavMethod → Bool → CopyHeaders → PathText → PathText → Caller → DavMetaData → MethodPlan Reply
copy_found m deep h p d who found = do
  there ← copy_allowed m deep h p d who found
  faults ← clearing deep who.moment d there
  transfer_if_cleared (is_move m) deep who.moment p d there faults

-- COPY, or MOVE, with what its headers say: the path of a folder is taken with a slash at its end (RFC 4918, sections 9.8 and 9.9)
abbrev pub copy_or_move : DavMethod → CopyHeaders → PathText → Caller → MethodPlan Reply
copy_or_move m h p who = do
  deep ← Done (copy_depth (is_move m) h.depth)
  d ← Done h.destination
  found ← ask_for (Metadata (names p))
  copy_found m deep h (closed found.dir p) d who found

-- the plan is that of a COPY, or of a MOVE, with these headers, of this path, by this client (RFC 4918, sections 9.8 and 9.9)
pub data IsCopyMove (m : DavMethod) (headers : Headers) (p : PathText) (who : Caller) : MethodPlan Reply → Type 0 where
  is_copy_move : (h : CopyHeaders) → AreCopyHeaders headers p h → IsCopyMove m headers p who (copy_or_move m h p who)
