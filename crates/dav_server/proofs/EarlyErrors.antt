-- A request that is answered with an error that only comes before a change leaves the world and the list of locks.
use Rattle.std.proofs.Common.{◌≡◌, ◌≤◌, ◌⊎◌, inl, inr, ℕ, Bool, true, false, true≢false, All, Result, Ok, Err, refl, sym, ap, subst, ◌∙◌}
use Rattle.dav_core.specs.declared.errors.DavError.{DavError}
use Rattle.dav_core.specs.declared.errors.FsError.{FsError}
use Rattle.dav_core.specs.declared.errors.FsError.TheVariants as fs
use Rattle.dav_core.specs.declared.method.DavMethod.{DavMethod}
use Rattle.dav_core.specs.declared.method.DavMethod.TheVariants.{Get, Head, Put, Patch, Options, MkCol, Copy, Move, Delete, PropFind, PropPatch, Lock as LockMethod, Unlock}
use Rattle.dav_core.specs.Asking.{StoreState, Asks as Asking}
use Rattle.dav_core.specs.CallLaws.{IsStorable}
use Rattle.dav_core.specs.Path.{PathText, names}
use Rattle.dav_core.specs.Status.{dav_status, fs_status}
use Rattle.dav_core.specs.World.{IsWorld, last_moment}
use Rattle.dav_engine.specs.declared.request.Body.{Body}
use Rattle.dav_engine.specs.Caller.{Caller}
use Rattle.dav_engine.specs.CopyMove.{is_copy_move}
use Rattle.dav_engine.specs.Delete.{is_delete}
use Rattle.dav_engine.specs.Lock.{is_lock}
use Rattle.dav_engine.specs.Method.{MethodPlan}
use Rattle.dav_engine.specs.Mkcol.{is_mkcol}
use Rattle.dav_engine.specs.Plan.{Locks, Ran}
use Rattle.dav_engine.specs.Proppatch.{is_proppatch}
use Rattle.dav_engine.specs.Put.{bytes_of_body, is_put}
use Rattle.dav_engine.specs.Reply.{Reply, reply_to}
use Rattle.dav_engine.specs.Unlock.{is_unlock}
use Rattle.dav_engine.specs.WorldLaws.{reads_done}
use Rattle.dav_engine.proofs.UnrefusedListings.{IsNone}
use Rattle.dav_engine.proofs.Theorems.{reading_leaves, options_only_reads, propfind_only_reads}
use Rattle.dav_server.specs.Get.{is_get}
use Rattle.dav_server.specs.Head.{Request, IsHead}
use Rattle.dav_server.specs.Leaving.{IsWriteRequest, IsFileError, may_come_late, IsEarlyError, EarlyErrorsLeave}
use Rattle.dav_server.specs.Machine.{Settings, Exchange, caller, PlanOf, gets, heads, puts, patches, makes, deletes, copies, moves, offers, finds_properties, sets_properties, locks, releases, MeansOf, not_allowed, no_path, no_body, method, Means, no_head, no_method, known, steps}
use Rattle.dav_server.specs.Method.{GivesServed}
use Rattle.dav_server.proofs.EarlyStatuses.{put_succeeds, mkcol_succeeds, delete_plain, copymove_plain, proppatch_succeeds, lock_succeeds, unlock_succeeds}
use Rattle.dav_server.proofs.ErrorLemmas.{errors_leave}
use Rattle.dav_server.proofs.GetWorld.{get_is_reading}
use Rattle.dav_server.proofs.MeansWorld.{target_storable, asks_one}
use Rattle.dav_server.proofs.OpenedFiles.{Same, IsFileStatus, file_late, body_leaves}
use Rattle.dav_server.proofs.PlanStatuses.{ran_ends}

-- ---- a plan

not_file : (m : DavMethod) (status : ℕ) → (m ≡ Put) ⊎ (m ≡ Patch) → may_come_late m status ≡ false → ¬ IsFileStatus status
not_file m status (inl same) early is = true≢false (sym (file_late status is) ∙ ap (λ (k : DavMethod). may_come_late k status) (sym same) ∙ early)
not_file m status (inr same) early is = true≢false (sym (file_late status is) ∙ ap (λ (k : DavMethod). may_come_late k status) (sym same) ∙ early)

-- whether a method opens a file and writes to it
abbrev writes_file : DavMethod → Bool
writes_file Put = true
writes_file Patch = true
writes_file m = false

apart_from : (m : DavMethod) → writes_file m ≡ false → ¬ ((m ≡ Put) ⊎ (m ≡ Patch))
apart_from m reads (inl same) = true≢false (sym (ap writes_file same) ∙ reads)
apart_from m reads (inr same) = true≢false (sym (ap writes_file same) ∙ reads)

-- the error of a LOCK that only comes early isn't that of a file
lock_refused : (d : FsError) → may_come_late LockMethod (fs_status d) ≡ true
lock_refused fs.NotImplemented = refl
lock_refused fs.GeneralFailure = refl
lock_refused fs.Exists = refl
lock_refused fs.NotFound = refl
lock_refused fs.Forbidden = refl
lock_refused fs.InsufficientStorage = refl
lock_refused fs.LoopDetected = refl
lock_refused fs.PathTooLong = refl
lock_refused fs.TooLarge = refl
lock_refused fs.IsRemote = refl

lock_file : (x : Exchange) (e : DavError) → may_come_late LockMethod (dav_status e) ≡ false → ¬ IsFileError x e
lock_file x e early (inl (d, is)) = true≢false (sym (ap (λ (f : DavError). may_come_late LockMethod (dav_status f)) is ∙ lock_refused d) ∙ early)
lock_file x e early (inr (inl is)) = true≢false (sym (ap (λ (f : DavError). may_come_late LockMethod (dav_status f)) is) ∙ early)
lock_file x e early (inr (inr (is, star))) = true≢false (sym (ap (λ (f : DavError). may_come_late LockMethod (dav_status f)) is) ∙ early)

-- what leaves all, or isn't such an error
ok_leaves : {allowed : ℕ} {headers : _} {p : PathText} {given : Body} {who : Caller} {m : DavMethod} {plan : MethodPlan Reply} (r : Reply) {old new : StoreState} {ls ms : Locks}
    → IsEarlyError m r → PlanOf allowed headers p given who m plan → Ran Asking plan old ls (Ok r) new ms → Same old ls new ms
ok_leaves {p = p} {who = who} r early (gets (is_get c are)) ran = reading_leaves (get_is_reading Get c (names p) who.moment) ran
ok_leaves {p = p} {who = who} r early (heads (is_get c are)) ran = reading_leaves (get_is_reading Head c (names p) who.moment) ran
ok_leaves {p = p} {given} {who} r early (puts (is_put h are)) ran = absurd (ran_ends (put_succeeds Put h (names p) who (bytes_of_body given)) ran early.0.0)
ok_leaves {p = p} {given} {who} r early (patches (is_put h are)) ran = absurd (ran_ends (put_succeeds Patch h (names p) who (bytes_of_body given)) ran early.0.0)
ok_leaves {p = p} {who = who} r early (makes (is_mkcol c are)) ran = absurd (ran_ends (mkcol_succeeds c p who) ran early.0.0)
ok_leaves {p = p} {who = who} r early (deletes (is_delete h are)) ran = absurd (ran_ends (delete_plain h p who) ran early.0)
ok_leaves {p = p} {who = who} r early (copies (is_copy_move h are)) ran = absurd (ran_ends (copymove_plain Copy h p who) ran early.0)
ok_leaves {p = p} {who = who} r early (moves (is_copy_move h are)) ran = absurd (ran_ends (copymove_plain Move h p who) ran early.0)
ok_leaves {allowed} {p = p} r early offers ran = reading_leaves (options_only_reads allowed p) ran
ok_leaves {headers = headers} {p} {given} {who} {plan = plan} r early (finds_properties is) ran = reading_leaves (propfind_only_reads headers p given who plan is) ran
ok_leaves {p = p} {given} {who} r early (sets_properties (is_proppatch c are)) ran = absurd (ran_ends (proppatch_succeeds c p given who) ran early.0.0)
ok_leaves {p = p} {given} {who} r early (locks (is_lock h are)) ran = absurd (ran_ends (lock_succeeds h p given who) ran early.0.0)
ok_leaves {p = p} {who = who} r early (releases (is_unlock token said)) ran = absurd (ran_ends (unlock_succeeds token p) ran early.0.0)

-- ---- a step

module _ (s : Settings) (x : Exchange) (r : Request) (m : DavMethod) (head : IsHead x.head r) (served : GivesServed r.method (Ok m)) {old new : StoreState} {ls ms : Locks} (world : IsWorld old.world)
    (small : x.moment ≤ last_moment) (none : All IsNone old.refusals) (unset : new.short ≡ false) where
  -- of a method that isn't PUT or PATCH
  err_leaves : (plan : MethodPlan Reply) (e : DavError) → may_come_late m (dav_status e) ≡ false → ¬ ((m ≡ Put) ⊎ (m ≡ Patch)) → Means s x plan → Ran Asking plan old ls (Err e) new ms → Same old ls new ms
  err_leaves plan e early other its ran =
      let writes : ¬ IsWriteRequest x = λ is. elim is [ inl says ↦ other (inl (asks_one x Put says head served)) | inr says ↦ other (inr (asks_one x Patch says head served)) ] in
      let (same, list) = errors_leave s x plan old new ls ms e (λ is. absurd (writes is)) its ran in
      (same, list (λ lock. inr (inl (lock_file x e (subst (λ (k : DavMethod). may_come_late k (dav_status e) ≡ false) (asks_one x LockMethod lock head served) early)))))

  -- of a method that isn't PUT or PATCH
  other_leaves : (k : DavMethod) (plan : MethodPlan Reply) (e : DavError) → k ≡ m → writes_file k ≡ false → may_come_late m (dav_status e) ≡ false → Means s x plan → Ran Asking plan old ls (Err e) new ms → Same old ls new ms
  other_leaves k plan e same reads early its ran = err_leaves plan e early (apart_from m (ap writes_file (sym same) ∙ reads)) its ran

  file_leaves : {headers : _} {p : PathText} {given : Body} {k : DavMethod} {plan : MethodPlan Reply} (e : DavError) → k ≡ m → may_come_late m (dav_status e) ≡ false → IsStorable (names p) → Means s x plan
      → PlanOf s.allowed headers p given (caller x) k plan → Ran Asking plan old ls (Err e) new ms → Same old ls new ms
  file_leaves {p = p} {given} e same early storable its (puts (is_put h are)) ran = body_leaves Put h (names p) (caller x) storable small world none unset (not_file m (dav_status e) (inl (sym same)) early) (bytes_of_body given) ran
  file_leaves {p = p} {given} e same early storable its (patches (is_put h are)) ran = body_leaves Patch h (names p) (caller x) storable small world none unset (not_file m (dav_status e) (inr (sym same)) early) (bytes_of_body given) ran
  file_leaves {plan = plan} e same early storable its (gets is) ran = other_leaves Get plan e same refl early its ran
  file_leaves {plan = plan} e same early storable its (heads is) ran = other_leaves Head plan e same refl early its ran
  file_leaves {plan = plan} e same early storable its (makes is) ran = other_leaves MkCol plan e same refl early its ran
  file_leaves {plan = plan} e same early storable its (deletes is) ran = other_leaves Delete plan e same refl early its ran
  file_leaves {plan = plan} e same early storable its (copies is) ran = other_leaves Copy plan e same refl early its ran
  file_leaves {plan = plan} e same early storable its (moves is) ran = other_leaves Move plan e same refl early its ran
  file_leaves {plan = plan} e same early storable its offers ran = other_leaves Options plan e same refl early its ran
  file_leaves {plan = plan} e same early storable its (finds_properties is) ran = other_leaves PropFind plan e same refl early its ran
  file_leaves {plan = plan} e same early storable its (sets_properties is) ran = other_leaves PropPatch plan e same refl early its ran
  file_leaves {plan = plan} e same early storable its (locks is) ran = other_leaves LockMethod plan e same refl early its ran
  file_leaves {plan = plan} e same early storable its (releases is) ran = other_leaves Unlock plan e same refl early its ran

  by_outcome : {headers : _} {p : PathText} {given : Body} {plan : MethodPlan Reply} (outcome : Result Reply DavError) → IsEarlyError m (reply_to outcome) → IsStorable (names p) → Means s x plan
      → PlanOf s.allowed headers p given (caller x) m plan → Ran Asking plan old ls outcome new ms → Same old ls new ms
  by_outcome (Ok reply) early storable its plan ran = ok_leaves reply early plan ran
  by_outcome (Err e) early storable its plan ran = file_leaves e refl early.1 storable its plan ran

  of_leaves : {plan : MethodPlan Reply} (outcome : Result Reply DavError) → IsEarlyError m (reply_to outcome) → Means s x plan → MeansOf s x r m plan → Ran Asking plan old ls outcome new ms → Same old ls new ms
  of_leaves outcome early its (not_allowed out) ran = reading_leaves reads_done ran
  of_leaves outcome early its (no_path e has none) ran = reading_leaves reads_done ran
  of_leaves outcome early its (no_body p e has named bad) ran = reading_leaves reads_done ran
  of_leaves outcome early its (method p given has named good plan) ran = by_outcome outcome early (target_storable named) its plan ran

pub early_errors_leave : EarlyErrorsLeave
early_errors_leave s x m old new ls ms reply world small none unset has early (steps plan outcome (no_head out) ran) = reading_leaves reads_done ran
early_errors_leave s x m old new ls ms reply world small none unset has early (steps plan outcome (no_method r e head gives) ran) = reading_leaves reads_done ran
early_errors_leave s x m old new ls ms reply world small none unset has early (steps plan outcome (known r k head served its) ran) =
    of_leaves s x r k head served world small none unset outcome (subst (λ (j : DavMethod). IsEarlyError j (reply_to outcome)) (sym (asks_one x m has head served)) early) (known r k head served its) its ran
