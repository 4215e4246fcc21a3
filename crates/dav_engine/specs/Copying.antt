-- The copy of what is at a path, and of what is below it, to another path (RFC 4918, section 9.8.3): it goes on where the store
-- refuses a call, and reports what wasn't copied.
use Rattle.std.specs.Prelude.{ℕ, suc, zero, ◌++◌, Bool, true, false, List, [], ◌∷◌, if◌then◌else◌, Option, None, Result, Ok, Err}
use Rattle.std.specs.List.{last_or}
use Rattle.std.specs.Option.{option_map}
use Rattle.dav_core.specs.declared.errors.FsError.{FsError}
use Rattle.dav_core.specs.declared.errors.FsError.TheVariants as fs
use Rattle.dav_core.specs.declared.fs.DavMetaData.{DavMetaData}
use Rattle.dav_core.specs.Asking.{Metadata, ReadDir, EntryMetadata, CreateDir, Copy, Rename}
use Rattle.dav_core.specs.Path.{PathText, names, are_equal}
use Rattle.dav_core.specs.Status.{fs_status}
use Rattle.dav_engine.specs.Folder.{child_of, room_at}
use Rattle.dav_engine.specs.Method.{MethodPlan, ◌>>=◌, answer_of, gives}
use Rattle.dav_engine.specs.Multistatus.{PathStatus}

-- a path that wasn't copied or wasn't created, and why (RFC 4918, section 9.8.3)
abbrev pub CopyFault : Type 0
CopyFault = PathText × FsError

-- A fault as the reply reports it: the path with the status of the store's error.
abbrev pub copy_report : CopyFault → PathStatus
copy_report f = (f.0, fs_status f.1)

-- Why the last of the paths wasn't copied, if one wasn't.
abbrev pub last_refusal : List CopyFault → Option FsError
last_refusal faults = option_map (λ f. f.1) (last_or None faults)

-- The faults of a call: its refusal, as a fault at this path, if it was refused.
abbrev pub refused_at : {A : Type 0} → PathText → Result A FsError → List CopyFault
refused_at p (Ok a) = []
refused_at p (Err e) = (p, e) ∷ []

-- Copies a file, with its bytes and its dead properties (RFC 4918, sections 9.8.1 and 9.8.2).
abbrev pub copy_file : ℕ → PathText → PathText → MethodPlan (List CopyFault)
copy_file now s d = do
  copied ← answer_of (Copy (names s) (names d) now)
  gives (refused_at s copied)

-- a copy from one path to another
abbrev pub CopyWalk : Type 0
CopyWalk = PathText → PathText → MethodPlan (List CopyFault)

-- Copies a member, and then the rest of its folder, where the store returned the member's metadata; else reports the folder,
-- and leaves the rest of it.
abbrev pub copy_seen : CopyWalk → PathText → PathText → List ℕ → MethodPlan (List CopyFault) → Result DavMetaData FsError → MethodPlan (List CopyFault)
copy_seen walk s d name rest (Err e) = gives ((s, e) ∷ [])
copy_seen walk s d name rest (Ok m) = do
  faults ← walk (child_of s name m.dir) (child_of d name m.dir)
  more ← rest
  gives (faults ++ more)

-- Copies the members of a folder, in order (RFC 4918, section 9.8.3).
abbrev pub copy_members : CopyWalk → PathText → PathText → List (List ℕ × Bool) → MethodPlan (List CopyFault)
copy_members walk s d [] = gives []
copy_members walk s d (entry ∷ entries) = do
  seen ← answer_of (EntryMetadata (names s ++ entry.0 ∷ []))
  copy_seen walk s d entry.0 (copy_members walk s d entries) seen

-- Copies the members of a folder, where the store listed them; else reports the folder.
abbrev pub copy_listed : CopyWalk → PathText → PathText → Result (List (List ℕ × Bool)) FsError → MethodPlan (List CopyFault)
copy_listed walk s d (Err e) = gives ((s, e) ∷ [])
copy_listed walk s d (Ok entries) = copy_members walk s d entries

-- Copies what is in a folder, where the folder was created at the destination; else reports the destination.
abbrev pub copy_inside : CopyWalk → PathText → PathText → Result (Unit {0}) FsError → MethodPlan (List CopyFault)
copy_inside walk s d (Err e) = gives ((d, e) ∷ [])
copy_inside walk s d (Ok made) = do
  listed ← answer_of (ReadDir (names s))
  copy_listed walk s d listed

-- The faults of a folder that is copied without its members: the refusal to create it at the destination, unless something is
-- there already (RFC 4918, section 9.8.3).
abbrev pub faults_at_depth_0 : PathText → Result (Unit {0}) FsError → List CopyFault
faults_at_depth_0 d (Ok made) = []
faults_at_depth_0 d (Err fs.Exists) = []
faults_at_depth_0 d (Err e) = (d, e) ∷ []

-- Creates a folder at the destination, as the copy of one without its members (RFC 4918, section 9.8.3).
abbrev pub copy_alone : ℕ → PathText → MethodPlan (List CopyFault)
copy_alone now d = do
  made ← answer_of (CreateDir (names d) now)
  gives (faults_at_depth_0 d made)

-- Copies a folder: it is created at the destination, and then all that is in it is copied, or at Depth 0 nothing. Its dead
-- properties aren't copied (RFC 4918, sections 9.8.2 and 9.8.3).
abbrev pub copy_folder : Bool → CopyWalk → ℕ → PathText → PathText → MethodPlan (List CopyFault)
copy_folder true walk now s d = do
  made ← answer_of (CreateDir (names d) now)
  copy_inside walk s d made
copy_folder false walk now s d = copy_alone now d

-- copies what was found, a folder or a file
abbrev pub copy_kind : Bool → Bool → CopyWalk → ℕ → PathText → PathText → MethodPlan (List CopyFault)
copy_kind deep true walk now s d = copy_folder deep walk now s d
copy_kind deep false walk now s d = copy_file now s d

-- Copies what is at a path, where the store returned its metadata; else reports the path.
abbrev pub copy_looked : Bool → CopyWalk → ℕ → PathText → PathText → Result DavMetaData FsError → MethodPlan (List CopyFault)
copy_looked deep walk now s d (Err e) = gives ((s, e) ∷ [])
copy_looked deep walk now s d (Ok m) = copy_kind deep m.dir walk now s d

-- Copies what is at s to d, with everything below it if `deep`, down to as many levels as there is room for. Where s is `top`,
-- the destination of the whole copy, nothing is copied: so a folder can be copied to a path below it (RFC 4918, section 9.8.3).
abbrev pub copy : ℕ → Bool → ℕ → PathText → PathText → PathText → MethodPlan (List CopyFault)
copy zero deep now top s d = gives ((s, fs.PathTooLong) ∷ [])
copy (suc room) deep now top s d = if are_equal s top then gives [] else (do
  found ← answer_of (Metadata (names s))
  copy_looked deep (λ a b. copy room deep now top a b) now s d found)

-- Copies what is at s to d, as part of the copy to `top`, with everything below it if `deep` (RFC 4918, section 9.8.3).
abbrev pub copying : Bool → ℕ → PathText → PathText → PathText → MethodPlan (List CopyFault)
copying deep now top s d = copy (room_at s) deep now top s d

-- Moves what is at a path, with everything below it, in one call of the store; reports the path where that is refused (RFC 4918, section 9.9).
abbrev pub renaming : ℕ → PathText → PathText → MethodPlan (List CopyFault)
renaming now s d = do
  moved ← answer_of (Rename (names s) (names d) now)
  gives (refused_at s moved)
