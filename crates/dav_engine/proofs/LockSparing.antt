-- A LOCK spares what an exclusive lock covers, and keeps a guard.
use Rattle.std.proofs.Common.{◌≡◌, ◌≢◌, ◌++◌, ℕ, Bool, true, false, if◌then◌else◌, List, [], ◌∷◌, Option, Some, None, refl, sym, ap, subst, ◌∙◌}
use Rattle.std.specs.Bool.{⊤}
use Rattle.std.specs.Option.{option_map, unwrap_or, is_none}
use Rattle.std.specs.Result.{result_ok}
use Rattle.dav_core.specs.declared.errors.DavError.TheVariants as dav
use Rattle.dav_core.specs.declared.fs.DavMetaData.{DavMetaData}
use Rattle.dav_core.specs.declared.method.DavMethod.TheVariants as method
use Rattle.dav_core.specs.Asking.{Metadata}
use Rattle.dav_core.specs.Handle.{Opening}
use Rattle.dav_core.specs.Locks.{Lock, covers, is_grantable, named_lock, refreshed, refreshed_lock, unlocked}
use Rattle.dav_core.specs.Path.{Path, PathText, names}
use Rattle.dav_engine.specs.declared.request.Body.{Body}
use Rattle.dav_engine.specs.Caller.{Caller, requester}
use Rattle.dav_engine.specs.Delete.{whole_depth}
use Rattle.dav_engine.specs.Folder.{path_found, location_found}
use Rattle.dav_engine.specs.Guard.{IsListed, Guards, StillGuards}
use Rattle.dav_engine.specs.Lock.{keep_refreshed, lock_again, asked_lock, taken_back, empty_opening, make_empty, lock_new, is_absent, lock, is_lock}
use Rattle.dav_engine.specs.LockHeaders.{LockHeaders, refreshed_for}
use Rattle.dav_engine.specs.LockInfo.{lock_info}
use Rattle.dav_engine.specs.Method.{MethodPlan, ◌>>=◌, required, gives}
use Rattle.dav_engine.specs.Reply.{Reply, Header}
use Rattle.dav_engine.specs.Sparing.{Sparing, Anything, AnyList, spares_ok, spares_err, spares_reads, spares_opens, spares_look, spares_keep, spares_last}
use Rattle.dav_engine.specs.SparingPlans.{LockSpares}
use Rattle.dav_engine.proofs.GuardChanges.{granted_off, granted_beside, refreshed_guards}
use Rattle.dav_engine.proofs.GuardedFolders.{stands_guarded}
use Rattle.dav_engine.proofs.LockListLemmas.{unlocked_guards}
use Rattle.dav_engine.proofs.LockPlans.{only_status, only_token, required_is, granted_if, pushed, refreshed_listed}
use Rattle.dav_engine.proofs.PutWorld.{look_reads, only_conditions}
use Rattle.dav_engine.proofs.SparingPlans.{At, IsOpenAbove, spare_bind, spare_then, spare_only, spare_parent}
use Rattle.dav_engine.specs.Conditions.{submitted}

-- What a LOCK has to keep of the list of locks: G is what is known of the list, E what is left of it at the end, and F what is known
-- of the token of a new lock. What may be granted to the client isn't covered, where nothing was found there.
module _ (covered : Path → Bool) (G E : List Lock → Type 0) (F : List ℕ → Type 0) (who : Caller) (k : LockHeaders)
    (off : (new : Lock) (ls : List Lock) → G ls → is_grantable new ls ≡ true → IsOpenAbove G true (requester who (submitted k.conditions.lists)) (names new.path) → covered (names new.path) ≡ false)
    (pushes : (new : Lock) (ls : List Lock) → F new.token → G ls → is_grantable new ls ≡ true → G (ls ++ new ∷ []))
    (ends : (token : List ℕ) (p : Path) (ls : List Lock) → G ls → E (taken_back token p ls))
    (renews : (token : List ℕ) (p : Path) (timeout : Option ℕ) (now : ℕ) (ls left : List Lock) → G ls → refreshed token p timeout now ls ≡ Some left → G left) where
  abbrev Part : {A : Type 0} → (A → Type 0) → MethodPlan A → Type 0
  Part Q plan = Sparing covered G E false (At None Q) None plan

  abbrev Whole : MethodPlan Reply → Type 0
  Whole plan = Sparing covered G E true Anything None plan

  -- ---- a new lock

  abbrev IsOpen : Option DavMetaData → PathText → Type 0
  IsOpen found p = IsOpenAbove G (is_none found) (requester who (submitted k.conditions.lists)) (names p)

  -- where nothing was found at the path, it isn't covered
  abbrev IsOff : Option DavMetaData → PathText → Type 0
  IsOff found p = is_none found ≡ true → covered (names p) ≡ false

  spare_granted : (found : Option DavMetaData) (new : Lock) (ls : List Lock) → F new.token → G ls → IsOpen found new.path → (b : Bool) → is_grantable new ls ≡ b → Part (λ u. IsOff found new.path) (granted_if new ls b)
  spare_granted found new ls fresh g above true may = spares_keep (pushes new ls fresh g may) (spares_ok (refl, λ none. off new ls g may (λ is. above none)))
  spare_granted found new ls fresh g above false may = spares_err

  spare_files : (how : Opening) (token : List ℕ) (p : PathText) (now : ℕ) (found : Option DavMetaData) (reply : Reply) → IsOff found p → Whole (make_empty how token (names p) now found >>= (λ u. gives reply))
  spare_files how token p now (Some found) reply off = spares_ok tt
  spare_files how token p now None reply off = spares_opens (off refl) (λ k. spares_ok tt) (λ e. spares_look (λ ls g. spares_last refl (ends token (names p) ls g)))

  spare_asked : (p : PathText) (content : Body) (found : Option DavMetaData)
      → Part (λ (l : Lock). (who.token ≡ Some l.token) × (l.path ≡ p) × IsOpen found p) (asked_lock k p content who found)
  spare_asked p content found = spare_then (whole_depth k.depth) _ (λ deep _.
      spare_bind _ (spare_only look_reads (only_conditions method.Lock k.conditions found)) (λ verdict _.
      spare_bind _ (spare_only look_reads (only_status verdict)) (λ goes _.
      spare_then (required (lock_info content) dav.XmlParseError) _ (λ info _.
      spare_then (required who.token (dav.Status 500)) _ (λ token is.
      spare_bind {Q = λ (u : Unit {0}). IsOpen found p} _ (spare_parent covered G E (is_none found) (requester who (submitted k.conditions.lists)) (names p) (dav.Status 423) (λ above. above)) (λ free above.
      spares_ok (refl, (required_is who.token (dav.Status 500) token is, refl, above))))))))

  spare_new : (p : PathText) (location : List Header) (content : Body) (found : Option DavMetaData) → ((token : List ℕ) → who.token ≡ Some token → F token) → Whole (lock_new k p location content who found)
  spare_new p location content found own =
      spare_bind _ (spare_asked p content found) (λ new has. spares_look (λ ls g.
      spare_bind _ (spare_granted found new ls (own new.token has.0) g (subst (λ q. IsOpen found q) (sym has.1) has.2) (is_grantable new ls) refl) (λ u off.
      spare_files (empty_opening k.conditions) new.token p who.moment found _ (subst (λ q. IsOff found q) has.1 off))))

  -- ---- a lock that is refreshed

  spare_kept : (l : Option Lock) (left : Option (List Lock)) (reply : Lock → Reply) → ((ls : List Lock) → left ≡ Some ls → G ls) → Whole (keep_refreshed l left >>= (λ l. gives (reply l)))
  spare_kept None left reply known = spares_err
  spare_kept (Some l) None reply known = spares_err
  spare_kept (Some l) (Some ls) reply known = spares_keep (known ls refl) (spares_ok tt)

  spare_again : (p : PathText) (location : List Header) → Whole (lock_again k p location who)
  spare_again p location =
      spare_bind _ (spare_only look_reads (only_token k (names p) who)) (λ token _. spares_look (λ ls g.
      spare_kept (option_map (refreshed_lock (refreshed_for k.timeout) who.moment) (named_lock token (names p) ls)) (refreshed token (names p) (refreshed_for k.timeout) who.moment ls) _
      (λ left is. renews token (names p) (refreshed_for k.timeout) who.moment ls left g is)))

  spare_if : (b : Bool) (one other : MethodPlan Reply) → Whole one → Whole other → Whole (if b then one else other)
  spare_if true one other is also = is
  spare_if false one other is also = also

  pub spare_lock : (p : PathText) (content : Body) → ((token : List ℕ) → who.token ≡ Some token → F token) → Whole (lock k p content who)
  spare_lock p content own =
      spares_look (λ ls g. spares_reads {c = Metadata (names p)} tt (λ answer.
      spare_if (is_absent content) _ _ (spare_again (path_found (result_ok answer) p) (location_found (result_ok answer) p))
      (spare_new (path_found (result_ok answer) p) (location_found (result_ok answer) p) content (result_ok answer) own)))

-- where a lock is taken back, a guard that is still listed guards as before
still_by : (h : Lock) (token : List ℕ) (p : Path) (ls : List Lock) (o : Option (List Lock)) → unlocked token p ls ≡ o → Guards h ls → StillGuards h (unwrap_or o ls)
still_by h token p ls None is g = λ there. g
still_by h token p ls (Some left) is g = unlocked_guards h token p ls left g is

pub lock_spares : LockSpares
lock_spares h headers p content who plan exclusive (is_lock k are) = (
  spare_lock (covers h) (IsListed h) AnyList (λ token. ⊤) who k (λ new ls there may above. granted_off h exclusive new ls there may) (λ new ls fresh there may. pushed h new ls there) (λ token q ls there. tt)
      (λ token q timeout now ls left there is. refreshed_listed h token q timeout now ls left there is) p content (λ token is. tt),
  λ guard own. spare_lock (covers h) (Guards h) (StillGuards h) (λ token. token ≢ h.token) who k (λ new ls g may above. granted_off h exclusive new ls (stands_guarded g) may)
      (λ new ls differ g may. granted_beside h guard new differ ls g may)
      (λ token q ls g. still_by h token q ls (unlocked token q ls) refl g)
      (λ token q timeout now ls left g is. refreshed_guards h token q timeout now ls left g is) p content (λ token is same. own (is ∙ ap Some same)),
)
