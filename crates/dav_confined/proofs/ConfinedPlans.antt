-- What a request changes is at the paths that it names, or below them.
use Rattle.std.proofs.Common.{◌≡◌, ◌≢◌, ℕ, Bool, true, false, true≢false, if◌then◌else◌, List, [], ◌∷◌, Option, Some, None, Result, Ok, Err, refl, sym, subst, ◌++◌, ap, ◌∙◌}
use Rattle.std.specs.Bool.{⊤}
use Rattle.std.specs.Option.{option_map}
use Rattle.std.specs.Result.{result_ok}
use Rattle.http_header.specs.FieldValue.{FieldValue}
use Rattle.dav_core.specs.declared.errors.DavError.{DavError}
use Rattle.dav_core.specs.declared.errors.DavError.TheVariants as dav
use Rattle.dav_core.specs.declared.fs.DavMetaData.{DavMetaData}
use Rattle.dav_core.specs.declared.method.DavMethod.{DavMethod}
use Rattle.dav_core.specs.declared.method.DavMethod.TheVariants.{Move}
use Rattle.dav_core.specs.declared.method.DavMethod.TheVariants as method
use Rattle.dav_core.specs.Asking.{Metadata, CreateDir}
use Rattle.dav_core.specs.Locks.{Lock, is_grantable, named_lock, refreshed, refreshed_lock, unlocked}
use Rattle.dav_core.specs.LockLaws.{IsNamedLock}
use Rattle.dav_core.specs.Path.{Path, PathText, names, star, is_at_or_under}
use Rattle.dav_core.proofs.Theorems.{unlock_takes_one}
use Rattle.dav_headers.specs.declared.depth.Depth.{Depth}
use Rattle.dav_engine.specs.declared.methods.put.headers.Writing.{Writing}
use Rattle.dav_engine.specs.declared.request.Body.{Body}
use Rattle.dav_engine.specs.Caller.{Caller, requester}
use Rattle.dav_engine.specs.Conditions.{Conditions}
use Rattle.dav_confined.specs.Confined.{SparedPathsStay, SparedPathsStayCut, ReadingSparesPaths, PutSparesOthers, MkcolSparesOthers, ProppatchSparesOthers, LockSparesOthers, UnlockSparesPaths, DeleteSparesOthers, CopyMoveSparesOthers, DeleteKeepsOtherLocks, CopyMoveKeepsOtherLocks, UnlockKeepsOtherLocks}
use Rattle.dav_engine.specs.Copying.{CopyFault, renaming}
use Rattle.dav_engine.specs.CopyMove.{CopyHeaders, DestinationNames, is_move, copy_depth, is_replaced, drop_if, drop_if_moved, transfer, transfer_if_cleared, copy_found, copy_or_move, is_copy_move}
use Rattle.dav_engine.specs.Delete.{whole_depth, drop_if_gone, delete_reply, delete_found, deleting, is_delete}
use Rattle.dav_engine.specs.Ending.{KeepsLock, keeps_done, keeps_ask, keeps_look, keeps_list}
use Rattle.dav_engine.specs.Folder.{closed, room_at, is_folder_found, path_found, location_found}
use Rattle.dav_engine.specs.Guard.{folder_of, IsSameLock, IsListed, listed_here, listed_later}
use Rattle.dav_engine.specs.Headers.{Headers}
use Rattle.dav_engine.specs.Lock.{keep_refreshed, lock_again, make_empty, empty_opening, lock_new, is_absent, lock, is_lock}
use Rattle.dav_engine.specs.LockHeaders.{LockHeaders, refreshed_for}
use Rattle.dav_engine.specs.LockToken.{SaysLockToken}
use Rattle.dav_engine.specs.Method.{MethodPlan, then as followed_by, ◌>>=◌, required, refused_as, gives}
use Rattle.dav_engine.specs.Mkcol.{mkcol, create_error, is_mkcol}
use Rattle.dav_engine.specs.Plan.{Done}
use Rattle.dav_engine.specs.PlanLaws.{ample}
use Rattle.dav_engine.specs.Proppatch.{changes_in, proppatch_found, proppatch, is_proppatch}
use Rattle.dav_engine.specs.Put.{PutHeaders, put_opening, store, put_body, bytes_of_body, is_put}
use Rattle.dav_engine.specs.Removal.{Fault, removal}
use Rattle.dav_engine.specs.Reply.{Reply, Header}
use Rattle.dav_engine.specs.Sparing.{NoneUnder, Sparing, Anything, AnyList, spares_ok, spares_err, spares_reads, spares_call, spares_opens, spares_look, spares_keep, spares_last}
use Rattle.dav_engine.specs.Unlock.{keep_left, is_unlock}
use Rattle.dav_engine.proofs.ChildLemmas.{names_closed, closed_is_path}
use Rattle.dav_engine.proofs.CopyHeaderLemmas.{place_by, plain_other}
use Rattle.dav_engine.proofs.CopyMoveLemmas.{only_copy}
use Rattle.dav_engine.proofs.CopyWorld.{only_copy_allowed}
use Rattle.dav_engine.proofs.DeleteWorld.{only_delete_allowed, only_removal}
use Rattle.dav_engine.proofs.EndingDelete.{keeps_only, still_listed}
use Rattle.dav_engine.proofs.EndingLemmas.{keeps_then, keeps_bind}
use Rattle.dav_engine.proofs.LockPlans.{only_asked, only_token, granted_if}
use Rattle.dav_engine.proofs.PlanAnswers.{cuts_are_like_refusals}
use Rattle.dav_engine.proofs.PutWorld.{IsLook, look_reads, only_guarded, only_free, only_put_allowed, only_mkcol_allowed}
use Rattle.dav_engine.proofs.SparingCopy.{spare_clearing, if_clear}
use Rattle.dav_engine.proofs.SparingDelete.{spare_removal}
use Rattle.dav_engine.proofs.SparingLaw.{leaves}
use Rattle.dav_engine.proofs.SparingPlans.{At, spare_bind, spare_then, spare_only, spare_reading}
use Rattle.dav_engine.proofs.UnlockPlans.{spare_unlock}
use Rattle.dav_engine.proofs.WorldPlans.{Only}
use Rattle.dav_confined.proofs.StoringPlans.{patch_spares, store_spares}

-- ---- the law

pub spared_paths_stay : SparedPathsStay
spared_paths_stay covered plan old new ls ms a sparing proper ran world =
    let left = leaves covered AnyList AnyList (λ ks g. tt) true Anything sparing proper ran tt world tt in
    (left.spared, left.ends)

pub spared_paths_stay_cut : SparedPathsStayCut
spared_paths_stay_cut covered plan old new ls ms sparing proper cut world =
    let (refusals, a, ks, ran, list) = cuts_are_like_refusals plan old new (Some ls) (Some ls) ms cut in
    (spared_paths_stay covered plan (ample old.world refusals) (ample new.world []) ls ks a sparing proper ran world).0

-- ---- the plans

module _ (covered : Path → Bool) where
  abbrev Part : {A : Type 0} → MethodPlan A → Type 0
  Part plan = Sparing covered AnyList AnyList false (At None (λ a. ⊤)) None plan

  abbrev Whole : MethodPlan Reply → Type 0
  Whole plan = Sparing covered AnyList AnyList true Anything None plan

  checks : {A : Type 0} {plan : MethodPlan A} → Only IsLook plan → Part plan
  checks only = spare_only look_reads only

  -- none of the paths is a path, also where that is closed as a folder's
  closed_out : (dir : Bool) (p : PathText) → p.bytes ≢ star → covered (names p) ≡ false → covered (names (closed dir p)) ≡ false
  closed_out dir p other out = subst (λ (q : Path). covered q ≡ false) (sym (names_closed dir p other)) out

  closed_none : (dir : Bool) (p : PathText) → p.bytes ≢ star → NoneUnder covered (names p) → NoneUnder covered (names (closed dir p))
  closed_none dir p other none = subst (NoneUnder covered) (sym (names_closed dir p other)) none

  put_spares : (m : DavMethod) (headers : PutHeaders) (p : Path) (who : Caller) (bytes : Option (List ℕ)) → covered p ≡ false → Whole (put_body m headers p who bytes)
  put_spares m headers p who None out = spares_err
  put_spares m headers p who (Some bytes) out =
      spare_bind (λ (allowed : Writing × Bool). store (put_opening headers allowed.0) allowed.0.from p bytes who.moment allowed.1)
      (checks (only_put_allowed m headers p who bytes))
      (λ allowed _. store_spares covered (put_opening headers allowed.0) allowed.0.from p bytes who.moment allowed.1 out)

  mkcol_spares : (c : Conditions) (p : PathText) (who : Caller) → covered (names p) ≡ false → Whole (mkcol c p who)
  mkcol_spares c p who out =
      spare_bind _ (checks (only_mkcol_allowed c p who))
      (λ u _. spares_call {c = CreateDir (names p) who.moment} out (λ answer. spare_then (refused_as create_error answer) _ (λ v _. spares_ok tt)))

  patch_found : (c : Conditions) (p : PathText) (location : List Header) (content : Body) (who : Caller) (found : DavMetaData) → covered (names p) ≡ false → Whole (proppatch_found c p location content who found)
  patch_found c p location content who found out =
      spare_bind _ (checks (only_guarded dav.Status method.PropPatch c (Some found))) (λ tokens _.
      spare_bind _ (checks (only_free false (requester who tokens) (names p) (dav.Status 423))) (λ u _.
      spare_then (required (changes_in content) dav.XmlParseError) _ (λ changes _. patch_spares covered p location changes out)))

  proppatch_spares : (c : Conditions) (p : PathText) (content : Body) (who : Caller) → p.bytes ≢ star → covered (names p) ≡ false → Whole (proppatch c p content who)
  proppatch_spares c p content who other out =
      spares_reads {c = Metadata (names p)} tt (λ answer. spare_then (refused_as dav.FsError answer) _ (λ found _.
      patch_found c (closed found.dir p) (location_found (Some found) p) content who found (closed_out found.dir p other out)))

  -- ---- DELETE

  answered : (p : PathText) (f : Fault) (faults : List Fault) → Whole (Done (delete_reply p (f ∷ faults)))
  answered p f [] = spares_ok tt
  answered p f (g ∷ faults) = spares_ok tt

  dropped : (p : PathText) (faults : List Fault) → Whole (drop_if_gone p faults >>= (λ done. Done (delete_reply p faults)))
  dropped p (f ∷ faults) = answered p f faults
  dropped p [] = spares_look (λ ls g. spares_last refl tt)

  removed : (deep : Bool) (c : Conditions) (p : PathText) (who : Caller) (found : DavMetaData) → p.bytes ≢ star → NoneUnder covered (names p) → Whole (delete_found deep c p who found)
  removed deep c p who found other none =
      spare_bind _ (checks (only_delete_allowed c p who found)) (λ u _.
      spare_bind _ (spare_removal covered AnyList AnyList deep who.moment p found.dir other none) (λ faults _. dropped p faults))

  delete_spares : (c : Conditions) (depth : Option Depth) (p : PathText) (who : Caller) → p.bytes ≢ star → NoneUnder covered (names p) → Whole (deleting c depth p who)
  delete_spares c depth p who other none =
      spare_then (whole_depth depth) _ (λ deep _.
      spares_reads {c = Metadata (names p)} tt (λ answer. spare_then (refused_as dav.FsError answer) _ (λ found _.
      removed deep c (closed found.dir p) who found (closed_is_path found.dir p other) (closed_none found.dir p other none))))

  -- ---- COPY and MOVE

  brought : (m : DavMethod) (deep : Bool) (k : CopyHeaders) (p d : PathText) (who : Caller) (found : DavMetaData) → d.bytes ≢ star
      → (is_move m ≡ true → NoneUnder covered (names p)) → NoneUnder covered (names d) → Whole (copy_found m deep k p d who found)
  brought m deep k p d who found other from to =
      spare_bind _ (checks (only_copy_allowed m deep k p d who found)) (λ there _.
      spare_bind _ (spare_clearing covered AnyList AnyList deep who.moment d there other to) (λ faults _.
      if_clear covered AnyList AnyList (λ q. ⊤) (λ q ls g off. tt) p d (is_move m) deep who.moment there faults other (λ is. (from is, tt)) (to, tt)))

  copymove_spares : (m : DavMethod) (k : CopyHeaders) (p : PathText) (who : Caller) (prefix : List ℕ) (values : List FieldValue) → DestinationNames prefix values k.destination → p.bytes ≢ star
      → (is_move m ≡ true → NoneUnder covered (names p)) → ((d : PathText) → DestinationNames prefix values (Ok d) → NoneUnder covered (names d)) → Whole (copy_or_move m k p who)
  copymove_spares m k p who prefix values named other from to =
      spare_then (copy_depth (is_move m) k.depth) _ (λ deep _. spare_then k.destination _ (λ d is.
      spares_reads {c = Metadata (names p)} tt (λ answer. spare_then (refused_as dav.FsError answer) _ (λ found _.
      brought m deep k (closed found.dir p) d who found (plain_other d (place_by d named is).plain)
      (λ moves. closed_none found.dir p other (from moves)) (to d (subst (DestinationNames prefix values) is named))))))

  -- ---- LOCK

  granted : (new : Lock) (ls : List Lock) (b : Bool) → Part (granted_if new ls b)
  granted new ls true = spares_keep tt (spares_ok (refl, tt))
  granted new ls false = spares_err

  files : (how : _) (token : List ℕ) (p : Path) (now : ℕ) (found : Option DavMetaData) (reply : Reply) → covered p ≡ false → Whole (make_empty how token p now found >>= (λ u. gives reply))
  files how token p now (Some found) reply out = spares_ok tt
  files how token p now None reply out = spares_opens out (λ k. spares_ok tt) (λ e. spares_look (λ ls g. spares_last refl tt))

  anew : (k : LockHeaders) (p : PathText) (location : List Header) (content : Body) (who : Caller) (found : Option DavMetaData) → covered (names p) ≡ false → Whole (lock_new k p location content who found)
  anew k p location content who found out =
      spare_bind _ (checks (only_asked k p content who found)) (λ new _. spares_look (λ ls g.
      spare_bind _ (granted new ls (is_grantable new ls)) (λ u _.
      files (empty_opening k.conditions) new.token (names p) who.moment found _ out)))

  renewed : (l : Option Lock) (left : Option (List Lock)) (reply : Lock → Reply) → Whole (keep_refreshed l left >>= (λ l. gives (reply l)))
  renewed None left reply = spares_err
  renewed (Some l) None reply = spares_err
  renewed (Some l) (Some ls) reply = spares_keep tt (spares_ok tt)

  again : (k : LockHeaders) (p : PathText) (location : List Header) (who : Caller) → Whole (lock_again k p location who)
  again k p location who =
      spare_bind _ (checks (only_token k (names p) who)) (λ token _. spares_look (λ ls g.
      renewed (option_map (refreshed_lock (refreshed_for k.timeout) who.moment) (named_lock token (names p) ls)) (refreshed token (names p) (refreshed_for k.timeout) who.moment ls) _))

  either : (b : Bool) (one two : MethodPlan Reply) → Whole one → Whole two → Whole (if b then one else two)
  either true one two is also = is
  either false one two is also = also

  lock_spares : (k : LockHeaders) (p : PathText) (content : Body) (who : Caller) → p.bytes ≢ star → covered (names p) ≡ false → Whole (lock k p content who)
  lock_spares k p content who other out =
      spares_look (λ ls g. spares_reads {c = Metadata (names p)} tt (λ answer.
      either (is_absent content) _ _ (again k (path_found (result_ok answer) p) (location_found (result_ok answer) p) who)
      (anew k (path_found (result_ok answer) p) (location_found (result_ok answer) p) content who (result_ok answer) (closed_out (is_folder_found (result_ok answer)) p other out))))

-- ---- the locks

module _ (h : Lock) where
  abbrev Elsewhere : Path → Type 0
  Elsewhere p = is_at_or_under (folder_of h) p ≡ false

  closed_off : (dir : Bool) (p : PathText) → p.bytes ≢ star → Elsewhere (names p) → Elsewhere (names (closed dir p))
  closed_off dir p other off = subst Elsewhere (sym (names_closed dir p other)) off

  gone_keeps : (p : PathText) (faults : List Fault) → Elsewhere (names p) → KeepsLock h (drop_if_gone p faults >>= (λ done. Done (delete_reply p faults)))
  gone_keeps p (f ∷ faults) off = keeps_done
  gone_keeps p [] off = keeps_look (λ ls listed. keeps_list (still_listed h (names p) off ls listed) keeps_done)

  removed_keeps : (deep : Bool) (c : Conditions) (p : PathText) (who : Caller) (found : DavMetaData) → Elsewhere (names p) → KeepsLock h (delete_found deep c p who found)
  removed_keeps deep c p who found off =
      keeps_bind _ (keeps_only (only_delete_allowed c p who found)) (λ u.
      keeps_bind _ (keeps_only (only_removal deep who.moment p found.dir)) (λ faults. gone_keeps p faults off))

  delete_keeps : (c : Conditions) (depth : Option Depth) (p : PathText) (who : Caller) → p.bytes ≢ star → Elsewhere (names p) → KeepsLock h (deleting c depth p who)
  delete_keeps c depth p who other off =
      keeps_then (whole_depth depth) _ (λ deep. keeps_ask (λ answer. keeps_then (refused_as dav.FsError answer) _ (λ found.
      removed_keeps deep c (closed found.dir p) who found (closed_off found.dir p other off))))

  -- an outcome, and what follows it
  keeps_known : {A B : Type 0} (r : Result A DavError) (f : A → MethodPlan B) → ((a : A) → r ≡ Ok a → KeepsLock h (f a)) → KeepsLock h (followed_by r f)
  keeps_known (Ok a) f more = more a refl
  keeps_known (Err e) f more = keeps_done

  replaced : (b : Bool) (d : PathText) → Elsewhere (names d) → KeepsLock h (drop_if b d)
  replaced true d off = keeps_look (λ ls listed. keeps_list (still_listed h (names d) off ls listed) keeps_done)
  replaced false d off = keeps_done

  moved_away : (p : PathText) (faults : List CopyFault) → Elsewhere (names p) → KeepsLock h (drop_if_moved p faults)
  moved_away p [] off = keeps_look (λ ls listed. keeps_list (still_listed h (names p) off ls listed) keeps_done)
  moved_away p (f ∷ faults) off = keeps_done

  cleared : (b : Bool) (now : ℕ) (d : PathText) (dir : Bool) → KeepsLock h (if b then removal true now d dir else Done (Ok []))
  cleared true now d dir = keeps_only (only_removal true now d dir)
  cleared false now d dir = keeps_done

  module _ (p d : PathText) where
    transferred : (moves deep : Bool) (now : ℕ) → (moves ≡ true → Elsewhere (names p)) → KeepsLock h (transfer moves deep now p d)
    transferred true deep now from =
        keeps_bind {plan = renaming now p d} (λ faults. drop_if_moved p faults >>= (λ u. gives faults)) (keeps_ask (λ answer. keeps_done))
        (λ faults. keeps_bind (λ u. gives faults) (moved_away p faults (from refl)) (λ u. keeps_done))
    transferred false deep now from = keeps_only (only_copy (room_at p) deep now d p d)

    after_clearing : (moves deep : Bool) (now : ℕ) (there : Option DavMetaData) (faults : List Fault) → (moves ≡ true → Elsewhere (names p)) → Elsewhere (names d) → KeepsLock h (transfer_if_cleared moves deep now p d there faults)
    after_clearing moves deep now there (f ∷ faults) from to = keeps_done
    after_clearing moves deep now there [] from to = keeps_bind _ (replaced (is_replaced deep there) d to) (λ u. keeps_bind _ (transferred moves deep now from) (λ faults. keeps_done))

    brought_keeps : (m : DavMethod) (deep : Bool) (k : CopyHeaders) (who : Caller) (found : DavMetaData) → (is_move m ≡ true → Elsewhere (names p)) → Elsewhere (names d) → KeepsLock h (copy_found m deep k p d who found)
    brought_keeps m deep k who found from to =
        keeps_bind _ (keeps_only (only_copy_allowed m deep k p d who found)) (λ there.
        keeps_bind _ (cleared (is_replaced deep there) who.moment d (is_folder_found there)) (λ faults. after_clearing (is_move m) deep who.moment there faults from to))

  copymove_keeps : (m : DavMethod) (k : CopyHeaders) (p : PathText) (who : Caller) (prefix : List ℕ) (values : List FieldValue) → DestinationNames prefix values k.destination → p.bytes ≢ star
      → (is_move m ≡ true → Elsewhere (names p)) → ((d : PathText) → DestinationNames prefix values (Ok d) → Elsewhere (names d)) → KeepsLock h (copy_or_move m k p who)
  copymove_keeps m k p who prefix values named other from to =
      keeps_then (copy_depth (is_move m) k.depth) _ (λ deep. keeps_known k.destination _ (λ d is.
      keeps_ask (λ answer. keeps_then (refused_as dav.FsError answer) _ (λ found.
      brought_keeps (closed found.dir p) d m deep k who found (λ moves. closed_off found.dir p other (from moves)) (to d (subst (DestinationNames prefix values) is named))))))

-- ---- an UNLOCK

removed_other : (h l : Lock) (front back : List Lock) → ¬ IsSameLock h l → IsListed h (front ++ l ∷ back) → IsListed h (front ++ back)
removed_other h l [] back other (listed_here is) = absurd (other is)
removed_other h l [] back other (listed_later there) = there
removed_other h l (m ∷ front) back other (listed_here is) = listed_here is
removed_other h l (m ∷ front) back other (listed_later there) = listed_later (removed_other h l front back other there)

left_keeps : (h : Lock) (left : Option (List Lock)) (reply : Reply) → ((after : List Lock) → left ≡ Some after → IsListed h after) → KeepsLock h (keep_left left >>= (λ u. gives reply))
left_keeps h None reply listed = keeps_done
left_keeps h (Some after) reply listed = keeps_list (listed after refl) keeps_done

module _ (h : Lock) (headers : Headers) (p : PathText) (off : SaysLockToken headers h.token → is_at_or_under (names p) (folder_of h) ≡ false) (token : List ℕ) (says : SaysLockToken headers token) where
  other_lock : (l : Lock) → IsNamedLock token (names p) l → ¬ IsSameLock h l
  other_lock l named same =
      let is : token ≡ h.token = sym named.token_is ∙ ap (λ (m : Lock). m.token) same in
      let above : is_at_or_under (names p) (folder_of h) ≡ true = subst (λ (q : Path). is_at_or_under (names p) q ≡ true) (ap (λ (m : Lock). names m.path) same) named.above in
      true≢false (sym above ∙ off (subst (SaysLockToken headers) is says))

  left_listed : (ks after : List Lock) → unlocked token (names p) ks ≡ Some after → IsListed h ks → IsListed h after
  left_listed ks after left here =
      let (l, front, back, named, was, new) = unlock_takes_one token (names p) ks after left in
      subst (IsListed h) (sym new) (removed_other h l front back (other_lock l named) (subst (IsListed h) was here))

-- ---- the laws

pub reading_spares_paths : ReadingSparesPaths
reading_spares_paths covered plan reads = spare_reading reads

pub put_spares_others : PutSparesOthers
put_spares_others covered m headers p body who plan out (is_put k are) = put_spares covered m k (names p) who (bytes_of_body body) out

pub mkcol_spares_others : MkcolSparesOthers
mkcol_spares_others covered headers p who plan out (is_mkcol c are) = mkcol_spares covered c p who out

pub proppatch_spares_others : ProppatchSparesOthers
proppatch_spares_others covered headers p content who plan other out (is_proppatch c are) = proppatch_spares covered c p content who other out

pub lock_spares_others : LockSparesOthers
lock_spares_others covered headers p content who plan other out (is_lock k are) = lock_spares covered k p content who other out

pub unlock_spares_paths : UnlockSparesPaths
unlock_spares_paths covered headers p who plan (is_unlock token is) = spare_unlock covered AnyList AnyList (λ said q ls left g gone. tt) token p

pub delete_spares_others : DeleteSparesOthers
delete_spares_others covered headers p who plan other none (is_delete k are) = delete_spares covered k.conditions k.depth p who other none

moves_is : (m : DavMethod) → is_move m ≡ true → m ≡ Move
moves_is Move is = refl
moves_is _ is = absurd (true≢false (sym is))

pub copymove_spares_others : CopyMoveSparesOthers
copymove_spares_others covered m headers p who plan other from to (is_copy_move k are) =
    copymove_spares covered m k p who p.prefix _ are.destination other (λ moves. from (moves_is m moves)) to

pub delete_keeps_other_locks : DeleteKeepsOtherLocks
delete_keeps_other_locks h headers p who plan other off (is_delete k are) = delete_keeps h k.conditions k.depth p who other off

pub copymove_keeps_other_locks : CopyMoveKeepsOtherLocks
copymove_keeps_other_locks h m headers p who plan other from to (is_copy_move k are) =
    copymove_keeps h m k p who p.prefix _ are.destination other (λ moves. from (moves_is m moves)) to

pub unlock_keeps_other_locks : UnlockKeepsOtherLocks
unlock_keeps_other_locks h headers p who plan off (is_unlock None is) = keeps_look (λ ls there. keeps_done)
unlock_keeps_other_locks h headers p who plan off (is_unlock (Some token) is) =
    keeps_look (λ ls there. keeps_ask (λ answer. keeps_look (λ ks here.
    left_keeps h (unlocked token (names p) ks) _ (λ after left. left_listed h headers p off token is ks after left here))))
