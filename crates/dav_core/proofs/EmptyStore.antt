-- A store that holds the root alone: what its calls answer.
use Rattle.std.proofs.Common.{◌≡◌, ℕ, ◌||◌, not, Bool, true, false, [], ◌∷◌, Some, Result, Ok, Err, refl, ap, List}
use Rattle.dav_core.specs.declared.errors.FsError.{FsError}
use Rattle.dav_core.specs.declared.errors.FsError.TheVariants.{NotImplemented, NotFound, Forbidden, Exists, InsufficientStorage}
use Rattle.dav_core.specs.Path.{Path, is_root, parent_of}
use Rattle.std.specs.declared.io.traits.SeekFrom.{SeekFrom}
use Rattle.dav_core.specs.World.{empty_from}
use Rattle.dav_core.specs.Handle.{Handle, Opening}
use Rattle.dav_core.specs.Meaning.{Meaning, refuse_if}
use Rattle.dav_core.specs.Property.{Patch, PropertyKey}
use Rattle.dav_core.specs.Asking.{Call, Answer, Metadata, ReadDir, RemoveDir, RemoveFile, HaveProps, GetQuota, SetAccessed, SetModified, EntryMetadata, Read, Write, Seek, Flush, FileMetadata, CreateDir, Open, Rename, Copy, PatchProps, GetProps, GetProp, StoreState, TakesMemory, IsAnswered, Asks, ran_short, answered, meaning}
use Rattle.dav_core.proofs.AskingLemmas.{answered_as}

-- the store, which ran out of memory at some time or not
abbrev pub empty_store : Bool → StoreState
empty_store short = record { world = empty_from 1; refusals = []; short = short }

-- a call that no rule refuses and that allocates, in a store that is out of memory
short_of : (call : Call) (short : Bool) (new : StoreState) → TakesMemory call → IsAnswered (meaning call (empty_from 1)) → new ≡ empty_store true → Asks call (empty_store short) (Err InsufficientStorage) new
short_of call short new takes allowed is = ran_short (record {
  takes_memory = takes;
  not_refused = refl;
  allowed = allowed;
  answer_is = refl;
  world = ap (λ (s : StoreState). s.world) is;
  refusals = ap (λ (s : StoreState). s.refusals) is;
  short = ap (λ (s : StoreState). s.short) is;
})

-- a call that changes nothing is answered by what it means
told : (call : Call) (short : Bool) (answer : Result (Answer call) FsError) → (answer, empty_from 1) ≡ answered (empty_from 1) (meaning call (empty_from 1)) → Asks call (empty_store short) answer (empty_store short)
told call short answer is = answered_as is refl refl

pub root_is_told : (p : Path) (short : Bool) → is_root p ≡ true → Asks (Metadata p) (empty_store short) (Ok (record { len = 0; dir = true; created = 0; modified = 0; number = Some 0 })) (empty_store short)
unfolding meaning
root_is_told [] short h = told (Metadata []) short _ refl
root_is_told (x ∷ p) short h = cc

pub other_is_missing : (p : Path) (short : Bool) → is_root p ≡ false → Asks (Metadata p) (empty_store short) (Err NotFound) (empty_store short)
unfolding meaning
other_is_missing [] short h = cc
other_is_missing (x ∷ p) short h = told (Metadata (x ∷ p)) short _ refl

pub root_has_no_members : (p : Path) (short : Bool) → is_root p ≡ true → Asks (ReadDir p) (empty_store short) (Ok []) (empty_store short)
unfolding meaning
root_has_no_members [] short h = told (ReadDir []) short _ refl
root_has_no_members (x ∷ p) short h = cc

pub other_is_not_listed : (p : Path) (short : Bool) → is_root p ≡ false → Asks (ReadDir p) (empty_store short) (Err NotFound) (empty_store short)
unfolding meaning
other_is_not_listed [] short h = cc
other_is_not_listed (x ∷ p) short h = told (ReadDir (x ∷ p)) short _ refl

pub root_stays : (p : Path) (now : ℕ) (short : Bool) → is_root p ≡ true → Asks (RemoveDir p now) (empty_store short) (Err Forbidden) (empty_store short) × Asks (RemoveFile p now) (empty_store short) (Err Forbidden) (empty_store short)
unfolding meaning
root_stays [] now short h = (told (RemoveDir [] now) short _ refl, told (RemoveFile [] now) short _ refl)
root_stays (x ∷ p) now short h = cc

pub other_is_not_removed : (p : Path) (now : ℕ) (short : Bool) → is_root p ≡ false → Asks (RemoveDir p now) (empty_store short) (Err NotFound) (empty_store short) × Asks (RemoveFile p now) (empty_store short) (Err NotFound) (empty_store short)
unfolding meaning
other_is_not_removed [] now short h = cc
other_is_not_removed (x ∷ p) now short h = (told (RemoveDir (x ∷ p) now) short _ refl, told (RemoveFile (x ∷ p) now) short _ refl)

pub has_properties : (p : Path) (short : Bool) → Asks (HaveProps p) (empty_store short) (Ok true) (empty_store short)
unfolding meaning
has_properties p short = told (HaveProps p) short _ refl

pub has_no_quota : (short : Bool) → Asks GetQuota (empty_store short) (Err NotImplemented) (empty_store short)
unfolding meaning
has_no_quota short = told GetQuota short _ refl

pub sets_no_times : (p : Path) (time : ℕ) (short : Bool) → Asks (SetAccessed p time) (empty_store short) (Err NotImplemented) (empty_store short) × Asks (SetModified p time) (empty_store short) (Err NotImplemented) (empty_store short)
unfolding meaning
sets_no_times p time short = (told (SetAccessed p time) short _ refl, told (SetModified p time) short _ refl)

-- an open file that was removed
abbrev pub gone_file : Handle
gone_file = record { made = 1; position = 0; reads = true; writes = true; appends = false }

pub gone_file_is_not_read : (count : ℕ) (short : Bool) → Asks (Read gone_file count) (empty_store short) (Err NotFound) (empty_store short)
unfolding meaning
gone_file_is_not_read count short = told (Read gone_file count) short _ refl

pub gone_file_is_not_written : (bytes : List ℕ) (now : ℕ) (short : Bool) → Asks (Write gone_file bytes now) (empty_store short) (Err NotFound) (empty_store short)
unfolding meaning
gone_file_is_not_written bytes now short = told (Write gone_file bytes now) short _ refl

pub gone_file_is_not_sought : (to : SeekFrom) (short : Bool) → Asks (Seek gone_file to) (empty_store short) (Err NotFound) (empty_store short)
unfolding meaning
gone_file_is_not_sought to short = told (Seek gone_file to) short _ refl

pub gone_file_is_not_flushed : (short : Bool) → Asks (Flush gone_file) (empty_store short) (Err NotFound) (empty_store short)
unfolding meaning
gone_file_is_not_flushed short = told (Flush gone_file) short _ refl

pub gone_file_is_not_told_of : (short : Bool) → Asks (FileMetadata gone_file) (empty_store short) (Err NotFound) (empty_store short)
unfolding meaning
gone_file_is_not_told_of short = told (FileMetadata gone_file) short _ refl

pub gone_entry_is_missing : (short : Bool) → Asks (EntryMetadata ((120 ∷ []) ∷ [])) (empty_store short) (Err NotFound) (empty_store short)
unfolding meaning
gone_entry_is_missing short = told (EntryMetadata ((120 ∷ []) ∷ [])) short _ refl

pub root_is_there : (p : Path) (now : ℕ) (short : Bool) → is_root p ≡ true → Asks (CreateDir p now) (empty_store short) (Err Exists) (empty_store short)
unfolding meaning
root_is_there [] now short h = told (CreateDir [] now) short _ refl
root_is_there (x ∷ p) now short h = cc

pub folder_has_no_parent : (p : Path) (now : ℕ) (short : Bool) → is_root (parent_of p) ≡ false → Asks (CreateDir p now) (empty_store short) (Err NotFound) (empty_store short)
unfolding meaning
folder_has_no_parent [] now short h = cc
folder_has_no_parent (x ∷ []) now short h = cc
folder_has_no_parent (x ∷ y ∷ p) now short h = told (CreateDir (x ∷ y ∷ p) now) short _ refl

pub folder_needs_memory : (p : Path) (now : ℕ) (short : Bool) (new : StoreState) → is_root p ≡ false → is_root (parent_of p) ≡ true → new ≡ empty_store true → Asks (CreateDir p now) (empty_store short) (Err InsufficientStorage) new
unfolding meaning
folder_needs_memory [] now short new h in_root is = cc
folder_needs_memory (x ∷ []) now short new h in_root is = short_of (CreateDir (x ∷ []) now) short new tt tt is
folder_needs_memory (x ∷ y ∷ p) now short new h in_root is = cc

-- a test that refuses, and one that doesn't
refused : {A : Type 0} (b : Bool) (e : FsError) (m : Meaning A) → b ≡ false → Err e ≡ refuse_if (not b) e m
refused true e m h = cc
refused false e m h = refl

let_through : {A : Type 0} (b : Bool) (e : FsError) (m : Meaning A) → b ≡ true → IsAnswered m → IsAnswered (refuse_if (not b) e m)
let_through true e m h is = is
let_through false e m h is = cc

refused_anyway : {A : Type 0} (b : Bool) (e : FsError) → ◌≡◌ {A = Meaning A} (Err e) (refuse_if b e (Err e))
refused_anyway true e = refl
refused_anyway false e = refl

pub root_is_no_file : (p : Path) (how : Opening) (now : ℕ) (short : Bool) → is_root p ≡ true → Asks (Open p how now) (empty_store short) (Err Forbidden) (empty_store short)
unfolding meaning
root_is_no_file [] how now short h = told (Open [] how now) short _ refl
root_is_no_file (x ∷ p) how now short h = cc

pub file_has_no_parent : (p : Path) (how : Opening) (now : ℕ) (short : Bool) → is_root (parent_of p) ≡ false → Asks (Open p how now) (empty_store short) (Err NotFound) (empty_store short)
unfolding meaning
file_has_no_parent [] how now short h = cc
file_has_no_parent (x ∷ []) how now short h = cc
file_has_no_parent (x ∷ y ∷ p) how now short h = told (Open (x ∷ y ∷ p) how now) short _ (ap (answered (empty_from 1)) (refused_anyway (not (how.create || how.create_new)) NotFound))

pub file_is_not_made : (p : Path) (how : Opening) (now : ℕ) (short : Bool) → is_root p ≡ false → (how.create || how.create_new) ≡ false → Asks (Open p how now) (empty_store short) (Err NotFound) (empty_store short)
unfolding meaning
file_is_not_made [] how now short h unasked = cc
file_is_not_made (x ∷ p) how now short h unasked = told (Open (x ∷ p) how now) short _ (ap (answered (empty_from 1)) (refused (how.create || how.create_new) NotFound _ unasked))

pub file_needs_memory : (p : Path) (how : Opening) (now : ℕ) (short : Bool) (new : StoreState) → is_root p ≡ false → is_root (parent_of p) ≡ true → (how.create || how.create_new) ≡ true → new ≡ empty_store true → Asks (Open p how now) (empty_store short) (Err InsufficientStorage) new
unfolding meaning
file_needs_memory [] how now short new h in_root wanted is = cc
file_needs_memory (x ∷ []) how now short new h in_root wanted is = short_of (Open (x ∷ []) how now) short new tt (let_through (how.create || how.create_new) NotFound _ wanted tt) is
file_needs_memory (x ∷ y ∷ p) how now short new h in_root wanted is = cc

pub root_is_not_renamed : (from to : Path) (now : ℕ) (short : Bool) → is_root from ≡ true → Asks (Rename from to now) (empty_store short) (Err Forbidden) (empty_store short)
unfolding meaning
root_is_not_renamed [] to now short h = told (Rename [] to now) short _ refl
root_is_not_renamed (x ∷ from) to now short h = cc

pub nothing_becomes_the_root : (from to : Path) (now : ℕ) (short : Bool) → is_root to ≡ true → Asks (Rename from to now) (empty_store short) (Err Forbidden) (empty_store short)
unfolding meaning
nothing_becomes_the_root [] [] now short h = told (Rename [] [] now) short _ refl
nothing_becomes_the_root (x ∷ from) [] now short h = told (Rename (x ∷ from) [] now) short _ refl
nothing_becomes_the_root from (y ∷ to) now short h = cc

pub other_is_not_renamed : (from to : Path) (now : ℕ) (short : Bool) → is_root from ≡ false → is_root to ≡ false → Asks (Rename from to now) (empty_store short) (Err NotFound) (empty_store short)
unfolding meaning
other_is_not_renamed [] to now short h h' = cc
other_is_not_renamed (x ∷ from) [] now short h h' = cc
other_is_not_renamed (x ∷ from) (y ∷ to) now short h h' = told (Rename (x ∷ from) (y ∷ to) now) short _ refl

pub root_is_not_copied : (from to : Path) (now : ℕ) (short : Bool) → is_root from ≡ true → Asks (Copy from to now) (empty_store short) (Err Forbidden) (empty_store short)
unfolding meaning
root_is_not_copied [] to now short h = told (Copy [] to now) short _ refl
root_is_not_copied (x ∷ from) to now short h = cc

pub other_is_not_copied : (from to : Path) (now : ℕ) (short : Bool) → is_root from ≡ false → Asks (Copy from to now) (empty_store short) (Err NotFound) (empty_store short)
unfolding meaning
other_is_not_copied [] to now short h = cc
other_is_not_copied (x ∷ from) to now short h = told (Copy (x ∷ from) to now) short _ refl

pub other_has_no_properties : (p : Path) (patches : List Patch) (content : Bool) (short : Bool) → is_root p ≡ false → Asks (PatchProps p patches) (empty_store short) (Err NotFound) (empty_store short) × Asks (GetProps p content) (empty_store short) (Err NotFound) (empty_store short)
unfolding meaning
other_has_no_properties [] patches content short h = cc
other_has_no_properties (x ∷ p) patches content short h = (told (PatchProps (x ∷ p) patches) short _ refl, told (GetProps (x ∷ p) content) short _ refl)

pub properties_need_memory : (p : Path) (patches : List Patch) (content : Bool) (short : Bool) (new : StoreState) → is_root p ≡ true → new ≡ empty_store true → Asks (PatchProps p patches) (empty_store short) (Err InsufficientStorage) new × Asks (GetProps p content) (empty_store short) (Err InsufficientStorage) new
unfolding meaning
properties_need_memory [] patches content short new h is = (short_of (PatchProps [] patches) short new tt tt is, short_of (GetProps [] content) short new tt tt is)
properties_need_memory (x ∷ p) patches content short new h is = cc

pub nothing_has_a_property : (p : Path) (key : PropertyKey) (short : Bool) → Asks (GetProp p key) (empty_store short) (Err NotFound) (empty_store short)
unfolding meaning
nothing_has_a_property [] key short = told (GetProp [] key) short _ refl
nothing_has_a_property (x ∷ p) key short = told (GetProp (x ∷ p) key) short _ refl
