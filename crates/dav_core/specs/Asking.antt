-- The calls of a file store as values, what each answers, and how a store that may refuse any call behaves.
use Rattle.std.specs.Prelude.{◌≡◌, ℕ, ⊤, Bool, true, List, [], ◌∷◌, Option, Some, None, Result, Ok, Err}
use Rattle.std.specs.declared.io.traits.SeekFrom.{SeekFrom}
use Rattle.dav_core.specs.declared.errors.FsError.{FsError}
use Rattle.dav_core.specs.declared.errors.FsError.TheVariants.{NotImplemented, InsufficientStorage}
use Rattle.dav_core.specs.declared.fs.DavMetaData.{DavMetaData}
use Rattle.dav_core.specs.Element.{ElementTree}
use Rattle.dav_core.specs.Path.{Path}
use Rattle.dav_core.specs.Property.{Property, PropertyKey, Patch}
use Rattle.dav_core.specs.World.{World}
use Rattle.dav_core.specs.Handle.{Handle, Opening}
use Rattle.dav_core.specs.Meaning.{Meaning}
use Rattle.dav_core.specs.Calls.{metadata, read_dir, create_dir, remove_dir, remove_file, rename, copy, patch_props, get_props, get_prop, open_file, read_bytes, write_bytes, seek, flush, file_metadata}

-- A call of a store, with its arguments. A number at the end is the moment of the call, in seconds since 1970; but that of Read
-- is the most bytes to read, and that of SetAccessed and SetModified the time to set. EntryMetadata is of a member that ReadDir
-- listed; the Bool of GetProps says whether each property is given with its element.
pub data Call : Type 0 where
  Metadata : Path → Call
  ReadDir : Path → Call
  EntryMetadata : Path → Call
  CreateDir : Path → ℕ → Call
  RemoveDir : Path → ℕ → Call
  RemoveFile : Path → ℕ → Call
  Rename : Path → Path → ℕ → Call
  Copy : Path → Path → ℕ → Call
  HaveProps : Path → Call
  PatchProps : Path → List Patch → Call
  GetProps : Path → Bool → Call
  GetProp : Path → PropertyKey → Call
  GetQuota : Call
  SetAccessed : Path → ℕ → Call
  SetModified : Path → ℕ → Call
  Open : Path → Opening → ℕ → Call
  Read : Handle → ℕ → Call
  Write : Handle → List ℕ → ℕ → Call
  Seek : Handle → SeekFrom → Call
  Flush : Handle → Call
  FileMetadata : Handle → Call

-- What a call answers when it isn't refused. ReadDir gives the name of each member and whether it is a folder, PatchProps a
-- status with each property, GetQuota how many bytes are used and, where known, how many there are in all. Read, Write and Seek
-- also give the open file with its new position.
abbrev pub Answer : Call → Type 0
Answer (Metadata p) = DavMetaData
Answer (ReadDir p) = List (List ℕ × Bool)
Answer (EntryMetadata p) = DavMetaData
Answer (CreateDir p now) = Unit {0}
Answer (RemoveDir p now) = Unit {0}
Answer (RemoveFile p now) = Unit {0}
Answer (Rename from to now) = Unit {0}
Answer (Copy from to now) = Unit {0}
Answer (HaveProps p) = Bool
Answer (PatchProps p patches) = List (ℕ × Property)
Answer (GetProps p content) = List Property
Answer (GetProp p key) = ElementTree
Answer GetQuota = ℕ × Option ℕ
Answer (SetAccessed p time) = Unit {0}
Answer (SetModified p time) = Unit {0}
Answer (Open p how now) = Handle
Answer (Read file count) = List ℕ × Handle
Answer (Write file bytes now) = Handle
Answer (Seek file to) = ℕ × Handle
Answer (Flush file) = Unit {0}
Answer (FileMetadata file) = DavMetaData

-- What a call means in a world. Every store has properties; to report quotas and to set times isn't implemented.
unfoldable pub meaning : (call : Call) → World → Meaning (Answer call)
meaning (Metadata p) w = metadata w p
meaning (ReadDir p) w = read_dir w p
meaning (EntryMetadata p) w = metadata w p
meaning (CreateDir p now) w = create_dir w p now
meaning (RemoveDir p now) w = remove_dir w p now
meaning (RemoveFile p now) w = remove_file w p now
meaning (Rename from to now) w = rename w from to now
meaning (Copy from to now) w = copy w from to now
meaning (HaveProps p) w = Ok (true, w)
meaning (PatchProps p patches) w = patch_props w p patches
meaning (GetProps p content) w = get_props w p content
meaning (GetProp p key) w = get_prop w p key
meaning GetQuota w = Err NotImplemented
meaning (SetAccessed p time) w = Err NotImplemented
meaning (SetModified p time) w = Err NotImplemented
meaning (Open p how now) w = open_file w p how now
meaning (Read file count) w = read_bytes w file count
meaning (Write file bytes now) w = write_bytes w file bytes now
meaning (Seek file to) w = seek w file to
meaning (Flush file) w = flush w file
meaning (FileMetadata file) w = file_metadata w file

-- The call allocates, so it may fail because memory runs out.
abbrev pub TakesMemory : Call → Type 0
TakesMemory (ReadDir p) = ⊤
TakesMemory (CreateDir p now) = ⊤
TakesMemory (Rename from to now) = ⊤
TakesMemory (Copy from to now) = ⊤
TakesMemory (PatchProps p patches) = ⊤
TakesMemory (GetProps p content) = ⊤
TakesMemory (GetProp p key) = ⊤
TakesMemory (Open p how now) = ⊤
TakesMemory (Read file count) = ⊤
TakesMemory (Write file bytes now) = ⊤
TakesMemory _ = ⊥

-- What contracts see of a store: the world that it holds, the refusals to come (one for each call, an error where that
-- call is refused), and whether it ever ran out of memory.
pub record StoreState : Type 0 where
  pub world : World
  pub refusals : List (Option FsError)
  pub short : Bool

-- the refusals that are left after one call
abbrev pub rest_of : List (Option FsError) → List (Option FsError)
rest_of [] = []
rest_of (r ∷ rs) = rs

-- What a call with this meaning answers, and the world after it; after an error the world is as it was.
abbrev pub answered : {A : Type 0} → World → Meaning A → Result A FsError × World
answered w (Ok (a, after)) = (Ok a, after)
answered w (Err e) = (Err e, w)

-- What the call answers, and the world after it: an error at the head of the list of refusals is the answer, and the world
-- stays; else `meaning` answers.
abbrev pub ask : (call : Call) → World → List (Option FsError) → Result (Answer call) FsError × World
ask call w [] = answered w (meaning call w)
ask call w (None ∷ rs) = answered w (meaning call w)
ask call w (Some e ∷ rs) = (Err e, w)

-- the error with which the next call is refused, if the refusals begin with one
abbrev pub next_refusal : List (Option FsError) → Option FsError
next_refusal [] = None
next_refusal (r ∷ rs) = r

-- The call means an answer, not an error: none of its own rules refuses it.
abbrev pub IsAnswered : {A : Type 0} → Meaning A → Type 0
IsAnswered (Ok r) = ⊤
IsAnswered (Err e) = ⊥

-- The call is answered as `ask` says, the head of the refusals is used up, and `short` stays as it was.
pub record Answered (call : Call) (old : StoreState) (answer : Result (Answer call) FsError) (new : StoreState) : Type 0 where
  pub as_asked : (answer, new.world) ≡ ask call old.world old.refusals
  pub refusals : new.refusals ≡ rest_of old.refusals
  pub short : new.short ≡ old.short

-- Memory runs out in a call that allocates and that neither the list of refusals nor its own rules refuse: the answer is
-- InsufficientStorage, the world stays, the head of the refusals is used up, and the store remembers that memory ran out.
pub record RanShort (call : Call) (old : StoreState) (answer : Result (Answer call) FsError) (new : StoreState) : Type 0 where
  pub takes_memory : TakesMemory call
  pub not_refused : next_refusal old.refusals ≡ None
  pub allowed : IsAnswered (meaning call old.world)
  pub answer_is : answer ≡ Err InsufficientStorage
  pub world : new.world ≡ old.world
  pub refusals : new.refusals ≡ rest_of old.refusals
  pub short : new.short ≡ true

-- A store in state `old` may give this answer to the call, and be in state `new` afterwards: the call is answered, or memory runs out in it.
pub data Asks (call : Call) (old : StoreState) (answer : Result (Answer call) FsError) (new : StoreState) : Type 0 where
  asked : Answered call old answer new → Asks call old answer new
  ran_short : RanShort call old answer new → Asks call old answer new

-- The answer with `view` applied to its value; an error stays as it is.
abbrev pub seen : {A B : Type 0} → (A → B) → Result A FsError → Result B FsError
seen view (Ok a) = Ok (view a)
seen view (Err e) = Err e
