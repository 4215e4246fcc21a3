-- A store that answers as calls mean meets `Asks`.
use Rattle.std.proofs.Common.{◌≡◌, ℕ, Bool, true, List, Some, None, Result, Ok, Err, inl, inr, refl, sym, ap, subst, ◌∙◌}
use Rattle.std.specs.declared.io.traits.SeekFrom.{SeekFrom}
use Rattle.dav_core.specs.declared.errors.FsError.{FsError}
use Rattle.dav_core.specs.declared.errors.FsError.TheVariants.{NotImplemented, InsufficientStorage}
use Rattle.dav_core.specs.Path.{Path}
use Rattle.dav_core.specs.Property.{PropertyKey, Patch}
use Rattle.dav_core.specs.Handle.{Handle, Opening}
use Rattle.dav_core.specs.Meaning.{Meaning}
use Rattle.dav_core.specs.Calls as calls
use Rattle.dav_core.specs.Asking.{Call, Answer, Metadata, ReadDir, EntryMetadata, CreateDir, RemoveDir, RemoveFile, Rename, Copy, HaveProps, PatchProps, GetProps, GetProp, GetQuota, SetAccessed, SetModified, Open, Read, Write, Seek, Flush, FileMetadata, TakesMemory, IsAnswered, Asks, ran_short, answered, meaning}
use Rattle.dav_core.proofs.Theorems.{answered_as}
use Rattle.dav_store.specs.Store.{Store, Answers, AnswersExactly, state_of, refusal_in}
use Rattle.dav_store.proofs.Walks.{inner}

step : (call : Call) → TakesMemory call → (old new : Store) (r : Result (Answer call) FsError) (m : Meaning (Answer call))
    → m ≡ meaning call old.world → Answers m r old new → Asks call (state_of old) r (state_of new)
step call takes old new r (Err e) means h =
    answered_as (ap (λ x. (x, new.world)) h.0 ∙ ap (λ (s : Store). (Err e, s.world)) h.1 ∙ ap (answered old.world) means) refl (ap (λ (s : Store). s.short) h.1)
step call takes old new r (Ok (a, w)) means (inl h) =
    answered_as (ap (λ x. (x, new.world)) h.0 ∙ ap (λ (s : Store). (Ok a, s.world)) h.1 ∙ ap (answered old.world) means) refl (ap (λ (s : Store). s.short) h.1)
step call takes old new r (Ok (a, w)) means (inr h) =
    ran_short (record {
      takes_memory = takes;
      not_refused = refl;
      allowed = subst IsAnswered means tt;
      answer_is = h.0;
      world = ap (λ (s : Store). s.world) h.1;
      refusals = refl;
      short = ap (λ (s : Store). s.short) h.1;
    })

exact_step : (call : Call) (old new : Store) (r : Result (Answer call) FsError) (m : Meaning (Answer call))
    → m ≡ meaning call old.world → AnswersExactly m r old new → Asks call (state_of old) r (state_of new)
exact_step call old new r (Err e) means h =
    answered_as (ap (λ x. (x, new.world)) h.0 ∙ ap (λ (s : Store). (Err e, s.world)) h.1 ∙ ap (answered old.world) means) refl (ap (λ (s : Store). s.short) h.1)
exact_step call old new r (Ok (a, w)) means h =
    answered_as (ap (λ x. (x, new.world)) h.0 ∙ ap (λ (s : Store). (Ok a, s.world)) h.1 ∙ ap (answered old.world) means) refl (ap (λ (s : Store). s.short) h.1)

-- a call that a rule refuses
pub refused : {A : Type 0} (m : Meaning A) (e : FsError) (r : Result A FsError) (s : Store) → refusal_in m ≡ Some e → r ≡ Err e → Answers m r s s
refused (Err x) e r s is err = (err ∙ ap (λ (y : FsError). Err y) (sym (inner x e is)), refl)
refused (Ok x) e r s is err = cc

-- and one that no rule refuses, where memory runs out
pub lacking : {A : Type 0} (m : Meaning A) (r : Result A FsError) (old new : Store) → refusal_in m ≡ None → r ≡ Err InsufficientStorage → new ≡ record old { short = true } → Answers m r old new
lacking (Err x) r old new is err short = cc
lacking (Ok (a, w)) r old new is err short = inr (err, short)

pub asks_open : (p : Path) (how : Opening) (now : ℕ) (old new : Store) (r : Result (Answer (Open p how now)) FsError) → Answers (calls.open_file old.world p how now) r old new → Asks (Open p how now) (state_of old) r (state_of new)
unfolding meaning
asks_open p how now old new r h = step (Open p how now) tt old new r _ refl h

pub asks_read_dir : (p : Path) (old new : Store) (r : Result (Answer (ReadDir p)) FsError) → Answers (calls.read_dir old.world p) r old new → Asks (ReadDir p) (state_of old) r (state_of new)
unfolding meaning
asks_read_dir p old new r h = step (ReadDir p) tt old new r _ refl h

pub asks_entry_metadata : (p : Path) (old new : Store) (r : Result (Answer (EntryMetadata p)) FsError) → AnswersExactly (calls.metadata old.world p) r old new → Asks (EntryMetadata p) (state_of old) r (state_of new)
unfolding meaning
asks_entry_metadata p old new r h = exact_step (EntryMetadata p) old new r _ refl h

pub asks_metadata : (p : Path) (old new : Store) (r : Result (Answer (Metadata p)) FsError) → AnswersExactly (calls.metadata old.world p) r old new → Asks (Metadata p) (state_of old) r (state_of new)
unfolding meaning
asks_metadata p old new r h = exact_step (Metadata p) old new r _ refl h

pub asks_create_dir : (p : Path) (now : ℕ) (old new : Store) (r : Result (Answer (CreateDir p now)) FsError) → Answers (calls.create_dir old.world p now) r old new → Asks (CreateDir p now) (state_of old) r (state_of new)
unfolding meaning
asks_create_dir p now old new r h = step (CreateDir p now) tt old new r _ refl h

pub asks_remove_dir : (p : Path) (now : ℕ) (old new : Store) (r : Result (Answer (RemoveDir p now)) FsError) → AnswersExactly (calls.remove_dir old.world p now) r old new → Asks (RemoveDir p now) (state_of old) r (state_of new)
unfolding meaning
asks_remove_dir p now old new r h = exact_step (RemoveDir p now) old new r _ refl h

pub asks_remove_file : (p : Path) (now : ℕ) (old new : Store) (r : Result (Answer (RemoveFile p now)) FsError) → AnswersExactly (calls.remove_file old.world p now) r old new → Asks (RemoveFile p now) (state_of old) r (state_of new)
unfolding meaning
asks_remove_file p now old new r h = exact_step (RemoveFile p now) old new r _ refl h

pub asks_rename : (from to : Path) (now : ℕ) (old new : Store) (r : Result (Answer (Rename from to now)) FsError) → Answers (calls.rename old.world from to now) r old new → Asks (Rename from to now) (state_of old) r (state_of new)
unfolding meaning
asks_rename from to now old new r h = step (Rename from to now) tt old new r _ refl h

pub asks_copy : (from to : Path) (now : ℕ) (old new : Store) (r : Result (Answer (Copy from to now)) FsError) → Answers (calls.copy old.world from to now) r old new → Asks (Copy from to now) (state_of old) r (state_of new)
unfolding meaning
asks_copy from to now old new r h = step (Copy from to now) tt old new r _ refl h

pub asks_patch_props : (p : Path) (patches : List Patch) (old new : Store) (r : Result (Answer (PatchProps p patches)) FsError) → Answers (calls.patch_props old.world p patches) r old new → Asks (PatchProps p patches) (state_of old) r (state_of new)
unfolding meaning
asks_patch_props p patches old new r h = step (PatchProps p patches) tt old new r _ refl h

pub asks_get_props : (p : Path) (content : Bool) (old new : Store) (r : Result (Answer (GetProps p content)) FsError) → Answers (calls.get_props old.world p content) r old new → Asks (GetProps p content) (state_of old) r (state_of new)
unfolding meaning
asks_get_props p content old new r h = step (GetProps p content) tt old new r _ refl h

pub asks_get_prop : (p : Path) (key : PropertyKey) (old new : Store) (r : Result (Answer (GetProp p key)) FsError) → Answers (calls.get_prop old.world p key) r old new → Asks (GetProp p key) (state_of old) r (state_of new)
unfolding meaning
asks_get_prop p key old new r h = step (GetProp p key) tt old new r _ refl h

pub asks_read_bytes : (file : Handle) (count : ℕ) (old new : Store) (r : Result (Answer (Read file count)) FsError) → Answers (calls.read_bytes old.world file count) r old new → Asks (Read file count) (state_of old) r (state_of new)
unfolding meaning
asks_read_bytes file count old new r h = step (Read file count) tt old new r _ refl h

pub asks_write_bytes : (file : Handle) (bytes : List ℕ) (now : ℕ) (old new : Store) (r : Result (Answer (Write file bytes now)) FsError) → Answers (calls.write_bytes old.world file bytes now) r old new → Asks (Write file bytes now) (state_of old) r (state_of new)
unfolding meaning
asks_write_bytes file bytes now old new r h = step (Write file bytes now) tt old new r _ refl h

pub asks_seek : (file : Handle) (to : SeekFrom) (old new : Store) (r : Result (Answer (Seek file to)) FsError) → AnswersExactly (calls.seek old.world file to) r old new → Asks (Seek file to) (state_of old) r (state_of new)
unfolding meaning
asks_seek file to old new r h = exact_step (Seek file to) old new r _ refl h

pub asks_flush : (file : Handle) (old new : Store) (r : Result (Answer (Flush file)) FsError) → AnswersExactly (calls.flush old.world file) r old new → Asks (Flush file) (state_of old) r (state_of new)
unfolding meaning
asks_flush file old new r h = exact_step (Flush file) old new r _ refl h

pub asks_file_metadata : (file : Handle) (old new : Store) (r : Result (Answer (FileMetadata file)) FsError) → AnswersExactly (calls.file_metadata old.world file) r old new → Asks (FileMetadata file) (state_of old) r (state_of new)
unfolding meaning
asks_file_metadata file old new r h = exact_step (FileMetadata file) old new r _ refl h

pub asks_get_quota : (s : Store) → Asks (GetQuota) (state_of s) (Err NotImplemented) (state_of s)
unfolding meaning
asks_get_quota s = answered_as refl refl refl

pub asks_set_accessed : (p : Path) (time : ℕ) (s : Store) → Asks (SetAccessed p time) (state_of s) (Err NotImplemented) (state_of s)
unfolding meaning
asks_set_accessed p time s = answered_as refl refl refl

pub asks_set_modified : (p : Path) (time : ℕ) (s : Store) → Asks (SetModified p time) (state_of s) (Err NotImplemented) (state_of s)
unfolding meaning
asks_set_modified p time s = answered_as refl refl refl

pub asks_have_props : (p : Path) (s : Store) → Asks (HaveProps p) (state_of s) (Ok true) (state_of s)
unfolding meaning
asks_have_props p s = answered_as refl refl refl
