-- The plans of requests that don't hold an exclusive lock leave the list of the members of its folder.
use Rattle.std.proofs.Common.{◌≡◌, ◌≢◌, ◌==◌, ◌||◌, inl, inr, ℕ, zero, suc, Bool, true, false, not, true≢false, if◌then◌else◌, List, [], ◌∷◌, length, Option, Some, None, Result, Ok, Err, refl, sym, subst, ◌∙◌}
use Rattle.std.specs.Bool.{⊤}
use Rattle.std.specs.Option.{is_some, unwrap_or}
use Rattle.std.specs.Result.{result_ok}
use Rattle.dav_core.specs.declared.errors.FsError.{FsError}
use Rattle.dav_core.specs.declared.errors.DavError.{DavError}
use Rattle.dav_core.specs.declared.errors.DavError.TheVariants as dav
use Rattle.dav_core.specs.declared.fs.DavMetaData.{DavMetaData}
use Rattle.dav_core.specs.declared.method.DavMethod.{DavMethod}
use Rattle.dav_core.specs.Asking.{Call, Metadata, ReadDir, EntryMetadata, CreateDir, RemoveDir, RemoveFile, Rename, Copy, HaveProps, PatchProps, GetProps, GetProp, GetQuota, SetAccessed, SetModified, Open, Read, Write, Seek, Flush, FileMetadata}
use Rattle.std.specs.declared.io.traits.SeekFrom.TheVariants.{Start}
use Rattle.dav_core.specs.Handle.{Handle, Opening}
use Rattle.dav_core.specs.Locks.{Lock, covers, is_held, is_free_for}
use Rattle.dav_core.specs.Path.{Path, PathText, star, names, is_at_or_under, parent_of, are_equal}
use Rattle.dav_engine.specs.declared.methods.put.headers.Writing.{Writing}
use Rattle.dav_engine.specs.Caller.{Caller, requester}
use Rattle.dav_engine.specs.Conditions.{Conditions, submitted}
use Rattle.dav_engine.specs.Copying.{CopyFault, CopyWalk, copy_kind, copy_looked, copy}
use Rattle.dav_engine.specs.CopyMove.{CopyHeaders, is_move, copy_depth, destination_found, changes_members, copy_free, clearing, drop_if, transfer_reply, copy_reply, transfer_if_cleared, copy_found, is_copy_move}
use Rattle.dav_engine.specs.Delete.{whole_depth, is_delete}
use Rattle.dav_engine.specs.Folder.{closed, is_folder_found, room_at}
use Rattle.dav_engine.specs.Guard.{folder_of, IsListed}
use Rattle.dav_engine.specs.Lock.{is_lock}
use Rattle.dav_engine.specs.Members.{is_member, is_folder_or_member, BringsNoMember, LeavesMembers, MembersStay, stay_ok, stay_err, stay_reads, stay_found, stay_seeks, stay_call, stay_look, stay_keep, stay_last, ReadingLeavesMembers, PutLeavesMembers, MkcolLeavesMembers, DeleteLeavesMembers, CopyMoveLeavesMembers, LockLeavesMembers, ProppatchLeavesMembers, UnlockLeavesMembers}
use Rattle.dav_engine.specs.Method.{MethodPlan, then as followed_by, ◌>>=◌, require, gives, refused_as, ask_for}
use Rattle.dav_engine.specs.Mkcol.{create_error, is_mkcol}
use Rattle.dav_engine.specs.Plan.{Done, Ask}
use Rattle.dav_engine.specs.Proppatch.{is_proppatch}
use Rattle.dav_engine.specs.Put.{put_opening, unsatisfiable, sought, open_error, store, put_body, bytes_of_body, is_put}
use Rattle.dav_engine.specs.Removal.{removal}
use Rattle.dav_engine.specs.Reply.{Reply}
use Rattle.dav_engine.specs.Sparing.{NoneUnder, Spares, OpenFile, AnyList, Sparing, spares_ok, spares_err, spares_reads, spares_call, spares_opens, spares_seeks, spares_writes, spares_look, spares_keep, spares_last}
use Rattle.dav_engine.specs.Unlock.{is_unlock}
use Rattle.dav_engine.proofs.CopyHeaderLemmas.{place_by, plain_other}
use Rattle.dav_engine.proofs.CopyWorld.{only_copy_free}
use Rattle.dav_engine.proofs.EndingDelete.{still_listed}
use Rattle.dav_engine.proofs.GuardChanges.{granted_off}
use Rattle.dav_engine.proofs.GuardedFolders.{free_passes}
use Rattle.dav_engine.proofs.LockPlans.{pushed, refreshed_listed}
use Rattle.dav_engine.proofs.LockSparing.{spare_lock}
use Rattle.dav_engine.proofs.MembersLaw.{none_listed, no_member_by, apart_listed, or_right}
use Rattle.dav_engine.proofs.PropertyPlans.{IsPatching, asks_path, asks_keeping, patches, only_proppatch}
use Rattle.dav_engine.proofs.PutWorld.{IsLook, looks, look_reads, only_put_allowed, only_mkcol_allowed}
use Rattle.dav_engine.proofs.SparingCopy.{spare_copy_free, spare_clearing, if_clear}
use Rattle.dav_engine.proofs.SparingDelete.{spare_deleting, free_outside_lock}
use Rattle.dav_engine.proofs.SparingPlans.{At, IsOpenAbove, spare_reading, spare_put_checks, spare_mkcol_checks}
use Rattle.dav_engine.proofs.UnlockPlans.{spare_unlock}
use Rattle.dav_engine.proofs.WorldPlans.{Only, only_done, only_ask, only_look}

-- ---- parts

-- one part after another
pub stay_bind : {h : Lock} {A B : Type 0} {whole : Bool} {Q : Option Path → A → Type 0} {R : Option Path → B → Type 0} {known : Option Path} {plan : MethodPlan A} (f : A → MethodPlan B)
    → MembersStay h false Q known plan → ((k : Option Path) (a : A) → Q k a → MembersStay h whole R k (f a)) → MembersStay h whole R known (plan >>= f)
stay_bind f (stay_ok {known} {a} q) more = more known a q
stay_bind f stay_err more = stay_err
stay_bind f (stay_reads {c = c} only next) more = stay_reads {c = c} only (λ answer. stay_bind f (next answer) more)
stay_bind f (stay_found next failed) more = stay_found (λ m. stay_bind f (next m) more) (λ e. stay_bind f (failed e) more)
stay_bind f (stay_seeks next failed) more = stay_seeks (λ place j same. stay_bind f (next place j same) more) (λ e. stay_bind f (failed e) more)
stay_bind f (stay_call {c = c} out next) more = stay_call {c = c} out (λ answer. stay_bind f (next answer) more)
stay_bind f (stay_look next) more = stay_look (λ ls listed. stay_bind f (next ls listed) more)
stay_bind f (stay_keep listed next) more = stay_keep listed (stay_bind f next more)
stay_bind f (stay_last is) more = cc

-- an outcome, and what follows it
pub stay_then : {h : Lock} {A B : Type 0} {whole : Bool} {R : Option Path → B → Type 0} {known : Option Path} (r : Result A DavError) (f : A → MethodPlan B)
    → ((a : A) → r ≡ Ok a → MembersStay h whole R known (f a)) → MembersStay h whole R known (followed_by r f)
stay_then (Ok a) f more = more a refl
stay_then (Err e) f more = stay_err

-- a look at what is there and at the locks: the same is known after it, and what follows from what it gives
stay_looked : {h : Lock} {A : Type 0} {covered : Path → Bool} {E : List Lock → Type 0} {R : A → Type 0} {Q : Option Path → A → Type 0} {known : Option Path} {plan : MethodPlan A}
    → ((a : A) → R a → Q known a) → Only IsLook plan → Sparing covered (IsListed h) E false (At None R) None plan → MembersStay h false Q known plan
stay_looked gets only_done (spares_ok {a = a} (same, r)) = stay_ok (gets a r)
stay_looked gets only_done spares_err = stay_err
stay_looked gets (only_ask looks more) (spares_reads {c = c} reads next) = stay_reads {c = c} reads (λ answer. stay_looked gets (more answer) (next answer))
stay_looked gets (only_ask looks more) (spares_call out next) = absurd out
stay_looked gets (only_look more) (spares_look next) = stay_look (λ ls listed. stay_looked gets (more (Some ls)) (next ls listed))

-- the same where nothing is asked of what it gives
stay_only : {h : Lock} {A : Type 0} {Q : Option Path → A → Type 0} {known : Option Path} {plan : MethodPlan A} → ((a : A) → Q known a) → Only IsLook plan → MembersStay h false Q known plan
stay_only {plan = Done (Ok a)} gets only_done = stay_ok (gets a)
stay_only {plan = Done (Err e)} gets only_done = stay_err
stay_only gets (only_ask {c = c} is more) = stay_reads {c = c} (look_reads c is) (λ answer. stay_only gets (more answer))
stay_only gets (only_look more) = stay_look (λ ls listed. stay_only gets (more (Some ls)))

module _ (h : Lock) where
  abbrev listed_in : Path → Bool
  listed_in = is_folder_or_member (folder_of h)

  abbrev Known : {A : Type 0} → Option Path → A → Type 0
  Known known a = ⊤

  -- ---- what spares the folder and its members

  no_member : (p : Path) (known : Option Path) → listed_in p ≡ false → BringsNoMember (folder_of h) known p
  no_member p known out = inl (or_right _ (is_member (folder_of h) p) out)

  leaves_by : (c : Call) (known : Option Path) → Spares listed_in c → LeavesMembers (folder_of h) known c
  leaves_by (CreateDir p now) known out = no_member p known out
  leaves_by (Copy from to now) known out = no_member to known out
  leaves_by (RemoveDir p now) known out = out
  leaves_by (RemoveFile p now) known out = out
  leaves_by (Rename from to now) known out = out
  leaves_by (PatchProps p changes) known out = tt
  leaves_by (Metadata p) known out = absurd out
  leaves_by (ReadDir p) known out = absurd out
  leaves_by (EntryMetadata p) known out = absurd out
  leaves_by (HaveProps p) known out = absurd out
  leaves_by (GetProps p content) known out = absurd out
  leaves_by (GetProp p key) known out = absurd out
  leaves_by GetQuota known out = absurd out
  leaves_by (SetAccessed p now) known out = absurd out
  leaves_by (SetModified p now) known out = absurd out
  leaves_by (Open p how now) known out = absurd out
  leaves_by (Read k count) known out = absurd out
  leaves_by (Write k bytes now) known out = absurd out
  leaves_by (Seek k to) known out = absurd out
  leaves_by (Flush k) known out = absurd out
  leaves_by (FileMetadata k) known out = absurd out

  stays : {A : Type 0} {E : List Lock → Type 0} {whole : Bool} {P : Option OpenFile → A → Type 0} {file : Option OpenFile} {plan : MethodPlan A} (known : Option Path)
      → Sparing listed_in (IsListed h) E whole P file plan → MembersStay h whole Known known plan
  stays known (spares_ok is) = stay_ok tt
  stays known spares_err = stay_err
  stays known (spares_reads {c = c} only next) = stay_reads {c = c} only (λ answer. stays known (next answer))
  stays known (spares_call {c = c} out next) = stay_call {c = c} (leaves_by c known out) (λ answer. stays None (next answer))
  stays {whole = whole} known (spares_opens {p} {how} {now} {go} out next failed) =
      stay_call {c = Open p how now} (no_member p known out)
      (λ answer. elim answer as (λ (r : Result Handle FsError). MembersStay h whole Known None (go r)) [
        | Ok k ↦ stays None (next k)
        | Err e ↦ stays None (failed e)
      ])
  stays known (spares_seeks next failed) = stay_seeks (λ place j same. stays known (next place j same)) (λ e. stays known (failed e))
  stays known (spares_writes {k = k} {bytes} {now} is out next) = stay_call {c = Write k bytes now} tt (λ answer. stays None (next answer))
  stays known (spares_look next) = stay_look (λ ls listed. stays known (next ls listed))
  stays known (spares_keep listed next) = stay_keep listed (stays known next)
  stays known (spares_last is e) = stay_last is

  -- ---- PUT and PATCH

  stay_sought : (known : Option Path) (place : Option ℕ) (file : Handle) → MembersStay h false Known known (sought place file)
  stay_sought known None file = stay_ok tt
  stay_sought known (Some k) file = stay_reads {c = Seek file (Start k)} tt (λ answer. stay_then (refused_as (λ e. unsatisfiable) answer) _ (λ moved _. stay_ok tt))

  stay_answered : (answer : Result Handle FsError) → MembersStay h false Known None (Done (refused_as dav.FsError answer))
  stay_answered (Ok j) = stay_ok tt
  stay_answered (Err e) = stay_err

  stay_written : (known : Option Path) (b : Bool) (file : Handle) (bytes : List ℕ) (now : ℕ) → MembersStay h false Known known (if b then gives file else ask_for (Write file bytes now))
  stay_written known true file bytes now = stay_ok tt
  stay_written known false file bytes now = stay_call {c = Write file bytes now} tt stay_answered

  stay_store : (known : Option Path) (how : Opening) (place : Option ℕ) (p : Path) (bytes : List ℕ) (now : ℕ) (found : Bool) → BringsNoMember (folder_of h) known p
      → MembersStay h true Known known (store how place p bytes now found)
  stay_store known how place p bytes now found brings =
      stay_call {c = Open p how now} brings (λ answer. stay_then (refused_as (open_error how) answer) _ (λ file _.
      stay_bind _ (stay_sought None place file) (λ k j _.
      stay_bind _ (stay_written k (length bytes == 0) j bytes now) (λ k' i _.
      stay_reads {c = Flush i} tt (λ flushed. stay_then (refused_as dav.FsError flushed) _ (λ u _. stay_reads {c = FileMetadata i} tt (λ told. stay_ok tt)))))))

  -- the store is asked first what is at a path: where it reports nothing, the checks tell that the path is no member
  stay_first : {A : Type 0} {covered : Path → Bool} {E : List Lock → Type 0} (p : Path) {go : Result DavMetaData FsError → MethodPlan A} → Only IsLook (Ask (Metadata p) go)
      → ((e : FsError) → Sparing covered (IsListed h) E false (At None (λ a. is_member (folder_of h) p ≡ false)) None (go (Err e)))
      → MembersStay h false (λ known a. BringsNoMember (folder_of h) known p) None (Ask (Metadata p) go)
  stay_first p (only_ask is more) refused = stay_found (λ m. stay_only (λ a. inr refl) (more (Ok m))) (λ e. stay_looked (λ a no. inl no) (more (Err e)) (refused e))

  module _ (exclusive : h.shared ≡ false) (who : Caller) (c : Conditions) (unheld : is_held (requester who (submitted c.lists)) h ≡ false) where
    -- the folder above is free for a stranger
    no_member_above : (p : Path) → IsOpenAbove (IsListed h) true (requester who (submitted c.lists)) p → is_member (folder_of h) p ≡ false
    no_member_above p above = let (ls, listed, free) = above refl in no_member_by h (requester who (submitted c.lists)) p ls exclusive unheld listed free

    uncovered : (deep : Bool) (x : Path) (ls : List Lock) → IsListed h ls → is_free_for deep (requester who (submitted c.lists)) x ls ≡ true → covers h x ≡ false
    uncovered deep x ls listed free = free_passes h exclusive (requester who (submitted c.lists)) unheld x deep ls listed free

    -- nor is it above or at what is free with everything below
    abbrev Off : Path → Type 0
    Off q = is_at_or_under (folder_of h) q ≡ false

    off : (q : Path) (ls : List Lock) → IsListed h ls → is_free_for true (requester who (submitted c.lists)) q ls ≡ true → Off q
    off q ls listed free = free_outside_lock h (requester who (submitted c.lists)) unheld q ls listed free

    none_in : (q : Path) → Off q → IsOpenAbove (IsListed h) true (requester who (submitted c.lists)) q → NoneUnder listed_in q
    none_in q outside above = none_listed (folder_of h) q outside (no_member_above q above)

    -- ---- COPY and MOVE

    stay_require : (known : Option Path) (b : Bool) (e : DavError) → MembersStay h false (λ k u. k ≡ known) known (require b e)
    stay_require known true e = stay_ok refl
    stay_require known false e = stay_err

    stay_if : {A : Type 0} (known : Option Path) (b : Bool) (one two : MethodPlan A) → MembersStay h false Known known one → MembersStay h false Known known two → MembersStay h false Known known (if b then one else two)
    stay_if known true one two is also = is
    stay_if known false one two is also = also

    module _ (p d : PathText) where
      -- what is found at the destination is known to be there
      abbrev IsKnown : Option Path → Option DavMetaData → Type 0
      IsKnown known there = is_some there ≡ true → known ≡ Some (names d)

      stay_destination : (overwrite : Option Bool) → MembersStay h false IsKnown None (destination_found overwrite d)
      stay_destination overwrite =
          stay_reads {c = Metadata (parent_of (names d))} tt (λ above. stay_bind _ (stay_require None (is_folder_found (result_ok above)) (dav.Status 409)) (λ k u _.
          stay_found (λ m. stay_bind _ (stay_require (Some (names d)) (unwrap_or overwrite true || not true) (dav.Status 412)) (λ k' v same. stay_ok (λ some. same)))
          (λ e. stay_bind _ (stay_require k (unwrap_or overwrite true || not false) (dav.Status 412)) (λ k' v _. stay_ok (λ some. absurd (true≢false (sym some)))))))

      -- what the checks tell: of a MOVE's source, and of the destination
      abbrev Told : Bool → Bool → Type 0
      Told moves changes = (moves ≡ true → NoneUnder listed_in (names p) × Off (names p)) × Off (names d) × (changes ≡ true → is_member (folder_of h) (names d) ≡ false)

      stay_checks : (m : DavMethod) (deep : Bool) (found : DavMetaData) (there : Option DavMetaData) (known : Option Path)
          → MembersStay h false (λ k u. (k ≡ known) × Told (is_move m) (changes_members (is_move m) deep there)) known (copy_free m deep c p d who found there)
      stay_checks m deep found there known =
          stay_looked {covered = covers h} {E = AnyList}
          (λ u passed. (refl, (λ is. (none_in (names p) (passed.0 is) (λ same. passed.2 is), passed.0 is), passed.1, λ is. no_member_above (names d) (λ same. passed.3 is))))
          (only_copy_free m deep c p d who found there) (spare_copy_free (covers h) (IsListed h) AnyList Off who c off p d m deep found there)

      -- a copy at Depth 0 onto what is there
      stay_kind : (now : ℕ) (known : Option Path) (dir : Bool) (walk : CopyWalk) → known ≡ Some (names d) → MembersStay h false Known known (copy_kind false dir walk now p d)
      stay_kind now known true walk at = stay_call {c = CreateDir (names d) now} (inr at) (λ made. stay_ok tt)
      stay_kind now known false walk at = stay_call {c = Copy (names p) (names d) now} (inr at) (λ copied. stay_ok tt)

      stay_seen : (now : ℕ) (known : Option Path) (walk : CopyWalk) (found : Result DavMetaData FsError) → known ≡ Some (names d) → MembersStay h false Known known (copy_looked false walk now p d found)
      stay_seen now known walk (Err e) at = stay_ok tt
      stay_seen now known walk (Ok m) at = stay_kind now known m.dir walk at

      stay_alone : (room now : ℕ) (known : Option Path) → known ≡ Some (names d) → MembersStay h false Known known (copy room false now d p d)
      stay_alone zero now known at = stay_ok tt
      stay_alone (suc room) now known at =
          stay_if known (are_equal p d) (gives []) _ (stay_ok tt) (stay_reads {c = Metadata (names p)} tt (λ found. stay_seen now known (λ a b. copy room false now d a b) found at))

      stay_replied : (known : Option Path) (status : ℕ) (faults : List CopyFault) → MembersStay h true Known known (Done (copy_reply p status faults))
      stay_replied known status [] = stay_ok tt
      stay_replied known status (f ∷ []) = stay_ok tt
      stay_replied known status (f ∷ g ∷ faults) = stay_ok tt

      abbrev Rest : Bool → Bool → ℕ → Option DavMetaData → MethodPlan Reply
      Rest moves deep now there = clearing deep now d there >>= (λ faults. transfer_if_cleared moves deep now p d there faults)

      -- the list of members changes neither where a folder was found and nothing is to be removed
      stay_unchanged : (moves deep : Bool) (now : ℕ) (known : Option Path) (there : Option DavMetaData) → changes_members moves deep there ≡ false → IsKnown known there
          → MembersStay h true Known known (Rest moves deep now there)
      stay_unchanged true deep now known there is at = cc
      stay_unchanged false deep now known None is at = cc
      stay_unchanged false true now known (Some m) is at = cc
      stay_unchanged false false now known (Some m) is at =
          subst (λ b. MembersStay h true Known known ((if b then removal true now d m.dir else gives []) >>= (λ faults. transfer_if_cleared false false now p d (Some m) faults))) (sym is)
          (subst (λ b. MembersStay h true Known known (drop_if b d >>= (λ u. transfer_reply false false now p d 204))) (sym is)
          (stay_bind _ (stay_alone (room_at p) now known (at refl)) (λ k faults _. stay_replied k 204 faults)))

      stay_by : (m : DavMethod) (deep : Bool) (now : ℕ) (known : Option Path) (there : Option DavMetaData) → d.bytes ≢ star → IsKnown known there
          → (b : Bool) → changes_members (is_move m) deep there ≡ b → Told (is_move m) b → MembersStay h true Known known (Rest (is_move m) deep now there)
      stay_by m deep now known there other at false is told = stay_unchanged (is_move m) deep now known there is at
      stay_by m deep now known there other at true is told =
          let none : NoneUnder listed_in (names d) = none_listed (folder_of h) (names d) told.1 (told.2 refl) in
          stay_bind _ (stays known (spare_clearing listed_in (IsListed h) AnyList deep now d there other none)) (λ k faults _.
          stays k (if_clear listed_in (IsListed h) AnyList Off (λ q ls listed outside. still_listed h q outside ls listed) p d (is_move m) deep now there faults other told.0 (none, told.1)))

    stay_copy_found : (m : DavMethod) (deep : Bool) (k : CopyHeaders) (p d : PathText) (found : DavMetaData) → k.conditions ≡ c → d.bytes ≢ star → MembersStay h true Known None (copy_found m deep k p d who found)
    stay_copy_found m deep k p d found same other =
        stay_bind {Q = λ known there. IsKnown p d known there × Told p d (is_move m) (changes_members (is_move m) deep there)} _
        (stay_bind _ (stay_destination p d k.overwrite) (λ known there at.
        stay_bind (λ u. copy_free m deep k.conditions p d who found there >>= (λ v. gives there)) (stay_require known (not (is_at_or_under (names p) (names d))) (dav.Status 403)) (λ known' u stays'.
        stay_bind (λ v. gives there)
        (subst (λ (cs : Conditions). MembersStay h false (λ k' u. (k' ≡ known') × Told p d (is_move m) (changes_members (is_move m) deep there)) known' (copy_free m deep cs p d who found there)) (sym same) (stay_checks p d m deep found there known'))
        (λ known'' v passed. stay_ok (λ some. passed.0 ∙ stays' ∙ at some, passed.1)))))
        (λ known there told. stay_by p d m deep who.moment known there other told.0 (changes_members (is_move m) deep there) refl told.1)

-- ---- those who don't hold the lock

pub reading_leaves_members : ReadingLeavesMembers
reading_leaves_members h plan reads = stays h None (spare_reading {covered = is_folder_or_member (folder_of h)} {G = IsListed h} {E = AnyList} {file = None} reads)

pub put_leaves_members : PutLeavesMembers
put_leaves_members h m headers p body who plan exclusive stranger (is_put hd are) = by_body (bytes_of_body body) where
  by_body : (bytes : Option (List ℕ)) → MembersStay h true (λ known a. ⊤) None (put_body m hd (names p) who bytes)
  by_body None = stay_err
  by_body (Some bytes) =
      let unheld = stranger hd.conditions are.conditions in
      stay_bind (λ (allowed : Writing × Bool). store (put_opening hd allowed.0) allowed.0.from (names p) bytes who.moment allowed.1)
      (stay_first h (names p) (only_put_allowed m hd (names p) who bytes)
      (λ e. spare_put_checks (covers h) (IsListed h) AnyList who m hd (names p) bytes (uncovered h exclusive who hd.conditions unheld) (Err e) (λ out above. no_member_above h exclusive who hd.conditions unheld (names p) above)))
      (λ known allowed brings. stay_store h known (put_opening hd allowed.0) allowed.0.from (names p) bytes who.moment allowed.1 brings)

pub mkcol_leaves_members : MkcolLeavesMembers
mkcol_leaves_members h headers p who plan exclusive stranger (is_mkcol c are) =
    let unheld = stranger c are in
    stay_bind _
    (stay_first h (names p) (only_mkcol_allowed c p who)
    (λ e. spare_mkcol_checks (covers h) (IsListed h) AnyList who c p (uncovered h exclusive who c unheld) (Err e) (λ out above. no_member_above h exclusive who c unheld (names p) above)))
    (λ known u brings. stay_call {c = CreateDir (names p) who.moment} brings (λ answer. stay_then (refused_as create_error answer) _ (λ v _. stay_ok tt)))

pub delete_leaves_members : DeleteLeavesMembers
delete_leaves_members h headers p who plan exclusive other stranger (is_delete k are) =
    let unheld = stranger k.conditions are.conditions in
    stays h None (spare_deleting (is_folder_or_member (folder_of h)) (IsListed h) AnyList (λ q. is_at_or_under (folder_of h) q ≡ false) who k.conditions (λ q ls listed. tt)
    (off h exclusive who k.conditions unheld) (none_in h exclusive who k.conditions unheld) (whole_depth k.depth) p other)

pub copymove_leaves_members : CopyMoveLeavesMembers
copymove_leaves_members h m headers p who plan exclusive other stranger (is_copy_move k are) =
    let unheld = stranger k.conditions are.conditions in
    stay_then (copy_depth (is_move m) k.depth) _ (λ deep _. stay_then k.destination _ (λ d is.
    stay_reads {c = Metadata (names p)} tt (λ answer. stay_then (refused_as dav.FsError answer) _ (λ found _.
    stay_copy_found h exclusive who k.conditions unheld m deep k (closed found.dir p) d found refl (plain_other d (place_by d are.destination is).plain)))))

pub lock_leaves_members : LockLeavesMembers
lock_leaves_members h headers p content who plan exclusive stranger (is_lock k are) =
    let unheld = stranger k.conditions are.conditions in
    stays h None (spare_lock (is_folder_or_member (folder_of h)) (IsListed h) AnyList (λ token. ⊤) who k
    (λ new ls listed may above. apart_listed h (names new.path) (granted_off h exclusive new ls listed may) (no_member_above h exclusive who k.conditions unheld (names new.path) above))
    (λ new ls fresh listed may. pushed h new ls listed) (λ token q ls listed. tt)
    (λ token q timeout now ls left listed is. refreshed_listed h token q timeout now ls left listed is) p content (λ token is. tt))

pub unlock_leaves_members : UnlockLeavesMembers
unlock_leaves_members h headers p who plan (is_unlock token is) = stays h None (spare_unlock (is_folder_or_member (folder_of h)) (IsListed h) AnyList (λ said q ls left listed left_is. tt) token p)

-- what only asks and changes properties
stay_patching : {h : Lock} {plan : MethodPlan Reply} (known : Option Path) → Only IsPatching plan → MembersStay h true (λ k a. ⊤) known plan
stay_patching {plan = Done (Ok a)} known only_done = stay_ok tt
stay_patching {plan = Done (Err e)} known only_done = stay_err
stay_patching known (only_ask {c = c} asks_path more) = stay_reads {c = c} tt (λ answer. stay_patching known (more answer))
stay_patching known (only_ask {c = c} asks_keeping more) = stay_reads {c = c} tt (λ answer. stay_patching known (more answer))
stay_patching known (only_ask {c = c} patches more) = stay_call {c = c} tt (λ answer. stay_patching None (more answer))
stay_patching known (only_look more) = stay_look (λ ls listed. stay_patching known (more (Some ls)))

pub proppatch_leaves_members : ProppatchLeavesMembers
proppatch_leaves_members h headers p content who plan (is_proppatch c are) = stay_patching None (only_proppatch c p content who)
