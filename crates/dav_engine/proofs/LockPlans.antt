-- What a LOCK does to worlds and to lists of locks.
use Rattle.std.proofs.Common.{◌≡◌, ◌≢◌, ◌++◌, ℕ, ◌≤◌, Bool, true, false, if◌then◌else◌, cond, List, [], ◌∷◌, Option, Some, None, Result, Ok, Err, refl, sym, ap, subst, ◌∙◌}
use Rattle.std.specs.Bool.{⊤}
use Rattle.std.specs.Option.{option_map, unwrap_or, is_none}
use Rattle.std.specs.Result.{result_ok}
use Rattle.dav_core.specs.declared.errors.FsError.{FsError}
use Rattle.dav_core.specs.declared.errors.DavError.{DavError}
use Rattle.dav_core.specs.declared.errors.DavError.TheVariants as dav
use Rattle.dav_core.specs.declared.fs.DavMetaData.{DavMetaData}
use Rattle.dav_core.specs.declared.method.DavMethod.TheVariants as method
use Rattle.dav_core.specs.Asking.{Call}
use Rattle.dav_core.specs.CallLaws.{IsStorable}
use Rattle.dav_core.specs.Handle.{Handle, Opening}
use Rattle.dav_core.specs.Lists.{change_first}
use Rattle.dav_core.specs.Locks.{Lock, is_grantable, has_token_at, lock_front, named_lock, refreshed, refreshed_lock, unlocked}
use Rattle.dav_core.specs.Path.{Path, PathText, names}
use Rattle.dav_core.specs.World.{last_moment}
use Rattle.dav_engine.specs.declared.request.Body.{Body}
use Rattle.dav_engine.specs.Caller.{Caller, requester}
use Rattle.dav_engine.specs.Conditions.{Addressed, dav_if_match, if_holds, if_match, submitted}
use Rattle.dav_engine.specs.Delete.{whole_depth}
use Rattle.dav_engine.specs.Ending.{KeepsLock, keeps_done, keeps_ask, keeps_look, keeps_list, LockKeepsLocks}
use Rattle.dav_engine.specs.Folder.{is_folder_found, path_found, location_found}
use Rattle.dav_engine.specs.Guard.{IsSameLock, IsListed, listed_here, listed_later}
use Rattle.dav_engine.specs.Lock.{one_token, token_to_refresh, keep_refreshed, refresh_in, lock_again, asked_lock, grant_in, taken_back, empty_opening, create_or_unlock, make_empty, lock_new, is_absent, is_lock}
use Rattle.dav_engine.specs.LockHeaders.{LockHeaders, refreshed_for}
use Rattle.dav_engine.specs.LockInfo.{lock_info}
use Rattle.dav_engine.specs.Method.{MethodPlan, then as followed_by, require, require_free, has_locks, required, unless_status, change_locks, require_parent}
use Rattle.dav_engine.specs.Plan.{Locks, Done, Keep}
use Rattle.dav_engine.specs.Reply.{Reply, Header}
use Rattle.dav_engine.specs.WorldLaws.{IsProperPlan, proper_done, proper_ask, proper_look, proper_keep, LockIsProper}
use Rattle.dav_engine.proofs.ChildLemmas.{names_closed}
use Rattle.dav_engine.proofs.DeleteWorld.{proper_change}
use Rattle.dav_engine.proofs.EndingDelete.{Gives, gives_ok, gives_err, gives_ask, gives_look, gives_bind, keeps_given, keeps_only}
use Rattle.dav_engine.proofs.EndingLemmas.{keeps_bind}
use Rattle.dav_engine.proofs.LockListLemmas.{mapped_from, unlocked_listed}
use Rattle.dav_engine.proofs.PutWorld.{IsLook, look_proper, only_if, only_conditions, only_free, only_parent}
use Rattle.dav_engine.proofs.WorldPlans.{Only, only_done, only_ask, only_look, only_then, only_bind, only_require, only_proper, proper_bind}

-- ---- what only looks

pub only_status : (status : Option ℕ) → Only IsLook (unless_status status)
only_status None = only_done
only_status (Some status) = only_done

pub only_asked : (h : LockHeaders) (p : PathText) (content : Body) (who : Caller) (found : Option DavMetaData) → Only IsLook (asked_lock h p content who found)
only_asked h p content who found = only_then (whole_depth h.depth) _ (λ deep.
    only_bind (if_match method.Lock h.conditions found) _ (only_conditions method.Lock h.conditions found) (λ verdict.
    only_bind (unless_status verdict) _ (only_status verdict) (λ goes.
    only_then (required (lock_info content) dav.XmlParseError) _ (λ info.
    only_then (required who.token (dav.Status 500)) _ (λ token.
    only_bind (require_parent (is_none found) (requester who (submitted h.conditions.lists)) (names p) (dav.Status 423)) _ (only_parent (is_none found) (requester who (submitted h.conditions.lists)) (names p) (dav.Status 423)) (λ free. only_done))))))

only_said : (lists : Option (List Addressed)) → Only IsLook (dav_if_match lists)
only_said lists = only_bind (if_holds lists) _ (only_if lists) (λ holds. only_done)

pub only_token : (h : LockHeaders) (p : Path) (who : Caller) → Only IsLook (token_to_refresh h p who)
only_token h p who = only_bind (dav_if_match h.conditions.lists) _ (only_said h.conditions.lists) (λ said.
    only_then (one_token said.1) _ (λ token.
    only_bind (require_free false (requester who (token ∷ [])) p (dav.Status 412)) _ (only_free false (requester who (token ∷ [])) p (dav.Status 412)) (λ free. only_done)))

-- ---- worlds

proper_if : {A : Type 0} (b : Bool) (one other : MethodPlan A) → IsProperPlan one → IsProperPlan other → IsProperPlan (if b then one else other)
proper_if true one other is also = is
proper_if false one other is also = also

proper_grant : (new : Lock) (ls : Locks) → IsProperPlan (grant_in new ls)
proper_grant new None = proper_done
proper_grant new (Some ls) = proper_if (is_grantable new ls) _ _ (proper_keep proper_done) proper_done

proper_back : (how : Opening) (token : List ℕ) (p : Path) (opened : Result Handle FsError) → IsProperPlan (create_or_unlock how token p opened)
proper_back how token p (Ok file) = proper_done
proper_back how token p (Err e) = proper_bind (change_locks (taken_back token p)) _ (proper_change (taken_back token p)) (λ done. proper_done)

proper_empty : (how : Opening) (token : List ℕ) (p : Path) (now : ℕ) (found : Option DavMetaData) → IsStorable p → now ≤ last_moment → IsProperPlan (make_empty how token p now found)
proper_empty how token p now (Some found) storable small = proper_done
proper_empty how token p now None storable small = proper_ask (storable, small) (λ opened tells. proper_back how token p opened)

proper_new : (h : LockHeaders) (p : PathText) (location : List Header) (content : Body) (who : Caller) (found : Option DavMetaData) → IsStorable (names p) → who.moment ≤ last_moment → IsProperPlan (lock_new h p location content who found)
proper_new h p location content who found storable small =
    proper_bind (asked_lock h p content who found) _ (only_proper look_proper (only_asked h p content who found)) (λ new. proper_look (λ ls.
    proper_bind (grant_in new ls) _ (proper_grant new ls) (λ done.
    proper_bind (make_empty (empty_opening h.conditions) new.token (names p) who.moment found) _ (proper_empty (empty_opening h.conditions) new.token (names p) who.moment found storable small) (λ made. proper_done))))

proper_kept : (l : Option Lock) (left : Option (List Lock)) → IsProperPlan (keep_refreshed l left)
proper_kept None left = proper_done
proper_kept (Some l) None = proper_done
proper_kept (Some l) (Some ls) = proper_keep proper_done

proper_refresh : (token : List ℕ) (p : Path) (timeout : Option ℕ) (now : ℕ) (ls : Locks) → IsProperPlan (refresh_in token p timeout now ls)
proper_refresh token p timeout now None = proper_done
proper_refresh token p timeout now (Some ls) = proper_kept (option_map (refreshed_lock timeout now) (named_lock token p ls)) (refreshed token p timeout now ls)

proper_again : (h : LockHeaders) (p : PathText) (location : List Header) (who : Caller) → IsProperPlan (lock_again h p location who)
proper_again h p location who =
    proper_bind (token_to_refresh h (names p) who) _ (only_proper look_proper (only_token h (names p) who)) (λ token. proper_look (λ ls.
    proper_bind (refresh_in token (names p) (refreshed_for h.timeout) who.moment ls) _ (proper_refresh token (names p) (refreshed_for h.timeout) who.moment ls) (λ l. proper_done)))

pub lock_is_proper : LockIsProper
lock_is_proper headers p content who plan storable other small (is_lock h are) =
    proper_look (λ ls. proper_bind (require (has_locks ls) (dav.Status 405)) _ (only_proper look_proper (only_require (has_locks ls) (dav.Status 405))) (λ there. proper_ask tt (λ answer tells.
    let path = path_found (result_ok answer) p in
    let location = location_found (result_ok answer) p in
    proper_if (is_absent content) (lock_again h path location who) (lock_new h path location content who (result_ok answer)) (proper_again h path location who)
    (proper_new h path location content who (result_ok answer) (subst IsStorable (sym (names_closed (is_folder_found (result_ok answer)) p other)) storable) small))))

-- the list with a new lock, where it may be granted
abbrev pub granted_if : Lock → List Lock → Bool → MethodPlan (Unit {0})
granted_if new ls b = if b then Keep (ls ++ new ∷ []) (Done (Ok tt)) else Done (Err (dav.Status 423))

-- ---- locks stay

pub gives_any : {h : Lock} {P : Call → Type 0} {A : Type 0} {plan : MethodPlan A} → Only P plan → Gives h (λ a. ⊤) plan
gives_any (only_done {a = Ok x}) = gives_ok tt
gives_any (only_done {a = Err e}) = gives_err
gives_any (only_ask {c = c} is more) = gives_ask (λ answer. gives_any (more answer))
gives_any (only_look more) = gives_look (λ ls there. gives_any (more (Some ls)))

gives_then : {h : Lock} {A B : Type 0} {Q : B → Type 0} (r : Result A DavError) (f : A → MethodPlan B) → ((a : A) → r ≡ Ok a → Gives h Q (f a)) → Gives h Q (followed_by r f)
gives_then (Ok a) f more = more a refl
gives_then (Err e) f more = gives_err

pub required_is : {A : Type 0} (o : Option A) (e : DavError) (a : A) → required o e ≡ Ok a → o ≡ Some a
required_is None e a is = absurd (cc)
required_is (Some b) e a is = let same : b ≡ a = cc in ap Some same

module _ (h : Lock) where
  asked_gives : (headers : LockHeaders) (p : PathText) (content : Body) (who : Caller) (found : Option DavMetaData) → Gives h (λ (l : Lock). who.token ≡ Some l.token) (asked_lock headers p content who found)
  asked_gives headers p content who found = gives_then (whole_depth headers.depth) _ (λ deep _.
      gives_bind _ (gives_any (only_conditions method.Lock headers.conditions found)) (λ verdict _.
      gives_bind _ (gives_any (only_status verdict)) (λ goes _.
      gives_then (required (lock_info content) dav.XmlParseError) _ (λ info _.
      gives_then (required who.token (dav.Status 500)) _ (λ token is.
      gives_bind _ (gives_any (only_parent (is_none found) (requester who (submitted headers.conditions.lists)) (names p) (dav.Status 423))) (λ free _. gives_ok (required_is who.token (dav.Status 500) token is)))))))

  pub pushed : (new : Lock) (ls : List Lock) → IsListed h ls → IsListed h (ls ++ new ∷ [])
  pushed new [] there = elim there [ ]
  pushed new (l ∷ ls) (listed_here is) = listed_here is
  pushed new (l ∷ ls) (listed_later there) = listed_later (pushed new ls there)

  keeps_granted : (new : Lock) (ls : List Lock) (b : Bool) → IsListed h ls → KeepsLock h (granted_if new ls b)
  keeps_granted new ls true there = keeps_list (pushed new ls there) keeps_done
  keeps_granted new ls false there = keeps_done

  pub back_listed : (token : List ℕ) (p : Path) (ls : List Lock) (o : Option (List Lock)) → unlocked token p ls ≡ o → token ≢ h.token → IsListed h ls → IsListed h (unwrap_or o ls)
  back_listed token p ls None is differ there = there
  back_listed token p ls (Some left) is differ there = unlocked_listed h token p ls left differ there is

  keeps_back : (how : Opening) (token : List ℕ) (p : Path) (opened : Result Handle FsError) → token ≢ h.token → KeepsLock h (create_or_unlock how token p opened)
  keeps_back how token p (Ok file) differ = keeps_done
  keeps_back how token p (Err e) differ = keeps_look (λ ls there. keeps_list (back_listed token p ls (unlocked token p ls) refl differ there) keeps_done)

  keeps_empty : (how : Opening) (token : List ℕ) (p : Path) (now : ℕ) (found : Option DavMetaData) → token ≢ h.token → KeepsLock h (make_empty how token p now found)
  keeps_empty how token p now (Some found) differ = keeps_done
  keeps_empty how token p now None differ = keeps_ask (λ opened. keeps_back how token p opened differ)

  keeps_new : (headers : LockHeaders) (p : PathText) (location : List Header) (content : Body) (who : Caller) (found : Option DavMetaData) → who.token ≢ Some h.token → KeepsLock h (lock_new headers p location content who found)
  keeps_new headers p location content who found own =
      keeps_given _ (asked_gives headers p content who found) (λ new has. keeps_look (λ ls there.
      keeps_bind _ (keeps_granted new ls (is_grantable new ls) there) (λ u.
      keeps_bind _ (keeps_empty (empty_opening headers.conditions) new.token (names p) who.moment found (λ same. own (has ∙ ap Some same))) (λ u. keeps_done))))

  changed_by : (test : Lock → Bool) (f : Lock → Lock) (l : Lock) (ls : List Lock) (b : Bool) → IsListed h (f l ∷ ls) → IsListed h (l ∷ change_first test f ls) → IsListed h (cond b (f l ∷ ls) (l ∷ change_first test f ls))
  changed_by test f l ls true one other = one
  changed_by test f l ls false one other = other

  listed_changed : (test : Lock → Bool) (f : Lock → Lock) → ((l : Lock) → IsSameLock h l → IsSameLock h (f l)) → (ls : List Lock) → IsListed h ls → IsListed h (change_first test f ls)
  listed_changed test f still [] there = elim there [ ]
  listed_changed test f still (l ∷ ls) (listed_here is) = changed_by test f l ls (test l) (listed_here (still l is)) (listed_here is)
  listed_changed test f still (l ∷ ls) (listed_later there) = changed_by test f l ls (test l) (listed_later there) (listed_later (listed_changed test f still ls there))

  pub refreshed_listed : (token : List ℕ) (p : Path) (timeout : Option ℕ) (now : ℕ) (ls left : List Lock) → IsListed h ls → refreshed token p timeout now ls ≡ Some left → IsListed h left
  refreshed_listed token p timeout now ls left there is =
      let (q, front, same) = mapped_from (λ q. change_first (has_token_at token q) (refreshed_lock timeout now) ls) (lock_front token p ls) left is in
      subst (IsListed h) same (listed_changed (has_token_at token q) (refreshed_lock timeout now) (λ l is. ap (λ (m : Lock). refreshed_lock timeout now m) is) ls there)

  keeps_kept : (l : Option Lock) (left : Option (List Lock)) → ((ls : List Lock) → left ≡ Some ls → IsListed h ls) → KeepsLock h (keep_refreshed l left)
  keeps_kept None left listed = keeps_done
  keeps_kept (Some l) None listed = keeps_done
  keeps_kept (Some l) (Some ls) listed = keeps_list (listed ls refl) keeps_done

  keeps_again : (headers : LockHeaders) (p : PathText) (location : List Header) (who : Caller) → KeepsLock h (lock_again headers p location who)
  keeps_again headers p location who =
      keeps_bind _ (keeps_only (only_token headers (names p) who)) (λ token. keeps_look (λ ls there.
      keeps_bind _ (keeps_kept (option_map (refreshed_lock (refreshed_for headers.timeout) who.moment) (named_lock token (names p) ls)) (refreshed token (names p) (refreshed_for headers.timeout) who.moment ls)
      (λ left is. refreshed_listed token (names p) (refreshed_for headers.timeout) who.moment ls left there is)) (λ l. keeps_done)))

  keeps_if : (b : Bool) (one other : MethodPlan Reply) → KeepsLock h one → KeepsLock h other → KeepsLock h (if b then one else other)
  keeps_if true one other is also = is
  keeps_if false one other is also = also

pub lock_keeps_locks : LockKeepsLocks
lock_keeps_locks h headers p content who plan own (is_lock k are) =
    keeps_look (λ ls there. keeps_ask (λ answer.
    keeps_if h (is_absent content) (lock_again k (path_found (result_ok answer) p) (location_found (result_ok answer) p) who) (lock_new k (path_found (result_ok answer) p) (location_found (result_ok answer) p) content who (result_ok answer))
    (keeps_again h k (path_found (result_ok answer) p) (location_found (result_ok answer) p) who) (keeps_new h k (path_found (result_ok answer) p) (location_found (result_ok answer) p) content who (result_ok answer) own)))
