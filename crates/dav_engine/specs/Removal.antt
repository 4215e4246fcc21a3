-- The removal of what is at a path and below it (RFC 4918, section 9.6.1): it goes on where the store refuses a call, and
-- reports what stays.
use Rattle.std.specs.Prelude.{ℕ, suc, zero, ◌++◌, ◌||◌, Bool, true, false, List, [], ◌∷◌, Result, Ok, Err}
use Rattle.std.specs.List.{list_any}
use Rattle.dav_core.specs.declared.errors.FsError.{FsError}
use Rattle.dav_core.specs.declared.errors.FsError.TheVariants as fs
use Rattle.dav_core.specs.declared.fs.DavMetaData.{DavMetaData}
use Rattle.dav_core.specs.Asking.{ReadDir, EntryMetadata, RemoveDir, RemoveFile}
use Rattle.dav_core.specs.Path.{Path, PathText, names, is_at_or_under, is_under}
use Rattle.dav_core.specs.Status.{fs_status}
use Rattle.dav_engine.specs.Folder.{child_of, room_at}
use Rattle.dav_engine.specs.Method.{MethodPlan, ◌>>=◌, answer_of, gives}
use Rattle.dav_engine.specs.Multistatus.{PathStatus}

-- One part of a walk for each item of a list, in order; what they report is joined.
abbrev pub each : {X F : Type 0} → (X → MethodPlan (List F)) → List X → MethodPlan (List F)
each f [] = gives []
each f (x ∷ xs) = do
  reports ← f x
  more ← each f xs
  gives (reports ++ more)

-- What wasn't removed, with the status that says why: what is at a path; a folder with all that is in it; a folder because of
-- the member of this name, whose metadata the store refused (RFC 4918, section 9.6.1).
pub data Fault : Type 0 where
  Stays : PathText → ℕ → Fault
  StaysWhole : PathText → ℕ → Fault
  StaysWith : PathText → List ℕ → ℕ → Fault

-- the path that a fault names
abbrev pub fault_path : Fault → PathText
fault_path (Stays p status) = p
fault_path (StaysWhole p status) = p
fault_path (StaysWith p name status) = p

-- A fault as the reply reports it: its path and its status (RFC 4918, section 9.6.1).
abbrev pub report_of : Fault → PathStatus
report_of (Stays p status) = (p, status)
report_of (StaysWhole p status) = (p, status)
report_of (StaysWith p name status) = (p, status)

-- The faults of a call: its refusal, as a fault, if it was refused.
abbrev pub refused_by : {A : Type 0} → (FsError → Fault) → Result A FsError → List Fault
refused_by fault (Ok a) = []
refused_by fault (Err e) = fault e ∷ []

-- removes a file
abbrev pub remove_file : ℕ → PathText → MethodPlan (List Fault)
remove_file now p = do
  removed ← answer_of (RemoveFile (names p) now)
  gives (refused_by (λ e. Stays p (fs_status e)) removed)

-- Removes a folder by itself, which the store refuses where anything is in it.
abbrev pub remove_alone : ℕ → PathText → MethodPlan (List Fault)
remove_alone now p = do
  removed ← answer_of (RemoveDir (names p) now)
  gives (refused_by (λ e. StaysWhole p (fs_status e)) removed)

-- The status of a folder that the store refuses to remove though its members were: 409 where something is in it still.
abbrev pub emptied_status : FsError → ℕ
emptied_status fs.Exists = 409
emptied_status e = fs_status e

-- Removes a folder after its members; where one of these stays, so does the folder, which isn't reported for that (RFC 4918, section 9.6.1).
abbrev pub remove_emptied : ℕ → PathText → List Fault → MethodPlan (List Fault)
remove_emptied now p (f ∷ faults) = gives (f ∷ faults)
remove_emptied now p [] = do
  removed ← answer_of (RemoveDir (names p) now)
  gives (refused_by (λ e. Stays p (emptied_status e)) removed)

-- A walk to a path, which is that of a folder or not: what it does there, and the faults that it gives.
abbrev pub Walk : Type 0
Walk = PathText → Bool → MethodPlan (List Fault)

-- Goes on to a member, where the store returned its metadata; else its folder stays because of it.
abbrev pub remove_found : Walk → PathText → List ℕ → Result DavMetaData FsError → MethodPlan (List Fault)
remove_found walk p name (Err e) = gives (StaysWith p name (fs_status e) ∷ [])
remove_found walk p name (Ok m) = walk (child_of p name m.dir) m.dir

-- removes a member of a folder (RFC 4918, section 9.6.1)
abbrev pub remove_member : Walk → PathText → List ℕ × Bool → MethodPlan (List Fault)
remove_member walk p entry = do
  found ← answer_of (EntryMetadata (names p ++ entry.0 ∷ []))
  remove_found walk p entry.0 found

-- Removes a folder and its members, where the store listed these; else the folder stays whole.
abbrev pub remove_listed : Walk → ℕ → PathText → Result (List (List ℕ × Bool)) FsError → MethodPlan (List Fault)
remove_listed walk now p (Err e) = gives (StaysWhole p (fs_status e) ∷ [])
remove_listed walk now p (Ok entries) = do
  faults ← each (remove_member walk p) entries
  remove_emptied now p faults

-- Removes what is at a path, which is a folder or not, with everything below it, as many names deep as there is room for (RFC 4918, section 9.6.1).
abbrev pub remove : ℕ → ℕ → PathText → Bool → MethodPlan (List Fault)
remove room now p false = remove_file now p
remove zero now p true = gives (StaysWhole p (fs_status fs.PathTooLong) ∷ [])
remove (suc room) now p true = do
  listed ← answer_of (ReadDir (names p))
  remove_listed (λ q dir. remove room now q dir) now p listed

-- Removes what is at a path, which is a folder or not, with everything below it or, where `deep` is false, by itself (RFC 4918, section 9.6.1).
abbrev pub removal : Bool → ℕ → PathText → Bool → MethodPlan (List Fault)
removal true now p dir = remove (room_at p) now p dir
removal false now p true = remove_alone now p
removal false now p false = remove_file now p

-- ---- what is there afterwards

-- Whether a fault names this path or one below it.
abbrev pub is_named_by : Path → Fault → Bool
is_named_by q f = is_at_or_under (names (fault_path f)) q

-- Whether a fault withholds a path from the removal: what is in a folder that stays whole, or a member and everything below it.
abbrev pub is_withheld_by : Path → Fault → Bool
is_withheld_by q (Stays p status) = false
is_withheld_by q (StaysWhole p status) = is_under q (names p)
is_withheld_by q (StaysWith p name status) = is_at_or_under q (names p ++ name ∷ [])

-- Whether a path survives a removal with these faults: one names it or a path below it, or withholds it (RFC 4918, section 9.6.1).
abbrev pub survives : List Fault → Path → Bool
survives faults q = list_any (λ f. is_named_by q f || is_withheld_by q f) faults
