-- How a LOCK changes the list of locks.
use Rattle.std.proofs.Common.{◌≡◌, ◌++◌, ℕ, Bool, true, false, if◌then◌else◌, List, [], ◌∷◌, Option, Some, None, Result, Ok, Err, refl, sym, ap, ◌∙◌}
use Rattle.std.specs.Bool.{⊤}
use Rattle.std.specs.Option.{is_some, option_map, unwrap_or, is_none}
use Rattle.std.specs.Result.{result_ok}
use Rattle.dav_core.specs.declared.errors.FsError.{FsError}
use Rattle.dav_core.specs.declared.errors.DavError.{DavError}
use Rattle.dav_core.specs.declared.errors.DavError.TheVariants as dav
use Rattle.dav_core.specs.declared.fs.DavMetaData.{DavMetaData}
use Rattle.dav_core.specs.declared.method.DavMethod.TheVariants as method
use Rattle.dav_core.specs.Asking.{Call, Answer}
use Rattle.dav_core.specs.Handle.{Handle, Opening}
use Rattle.dav_core.specs.Locks.{Lock, is_grantable, named_lock, refreshed, refreshed_lock, unlocked}
use Rattle.dav_core.specs.Path.{Path, PathText, names}
use Rattle.dav_core.proofs.Theorems.{granted_can_be_unlocked}
use Rattle.dav_engine.specs.declared.request.Body.{Body}
use Rattle.dav_engine.specs.Caller.{Caller, requester}
use Rattle.dav_engine.specs.Delete.{whole_depth}
use Rattle.dav_engine.specs.Folder.{path_found, location_found}
use Rattle.dav_engine.specs.ListChanges.{grants, refreshes, unlocks, ChangesList, changes_done, changes_ask, changes_look, changes_list, LockChangesList}
use Rattle.dav_engine.specs.Lock.{keep_refreshed, lock_again, lock_of, asked_lock, empty_opening, empty_error, create_or_unlock, make_empty, granted_reply, lock_new, is_absent, is_lock}
use Rattle.dav_engine.specs.LockHeaders.{LockHeaders, refreshed_for}
use Rattle.dav_engine.specs.LockInfo.{LockInfo, lock_info}
use Rattle.dav_engine.specs.Method.{MethodPlan, then as followed_by, ◌>>=◌, required, unless_status, gives, fails, require_parent}
use Rattle.dav_engine.specs.Plan.{Done, Ask, Look, Keep, Locks}
use Rattle.dav_engine.specs.Reply.{Header, Reply}
use Rattle.dav_engine.proofs.ListChangeLemmas.{changes_only, changes_bind}
use Rattle.dav_engine.proofs.LockPlans.{only_token}
use Rattle.dav_engine.proofs.PutWorld.{IsLook, only_conditions, only_parent}
use Rattle.dav_engine.proofs.WorldPlans.{Only, only_done, only_ask, only_look}
use Rattle.dav_engine.specs.Conditions.{submitted}

-- ---- plans that only look, with what holds of what they give

pub data Finds {A : Type 0} (Q : A → Type 0) : MethodPlan A → Type 0 where
  finds_ok : {a : A} → Q a → Finds Q (Done (Ok a))
  finds_err : {e : DavError} → Finds Q (Done (Err e))
  finds_ask : {c : Call} {go : Result (Answer c) FsError → MethodPlan A} → IsLook c → ((answer : Result (Answer c) FsError) → Finds Q (go answer)) → Finds Q (Ask c go)
  finds_look : {go : Locks → MethodPlan A} → ((ls : Locks) → Finds Q (go ls)) → Finds Q (Look go)

finds_only : {A : Type 0} {plan : MethodPlan A} → Only IsLook plan → Finds (λ a. ⊤) plan
finds_only {plan = Done (Ok a)} only_done = finds_ok tt
finds_only {plan = Done (Err e)} only_done = finds_err
finds_only (only_ask {c = c} is more) = finds_ask {c = c} is (λ answer. finds_only (more answer))
finds_only (only_look more) = finds_look (λ ls. finds_only (more ls))

finds_then : {A B : Type 0} {R : B → Type 0} (r : Result A DavError) (f : A → MethodPlan B) → ((a : A) → Finds R (f a)) → Finds R (followed_by r f)
finds_then (Ok a) f more = more a
finds_then (Err e) f more = finds_err

finds_bind : {A B : Type 0} {Q : A → Type 0} {R : B → Type 0} {plan : MethodPlan A} (f : A → MethodPlan B) → Finds Q plan → ((a : A) → Q a → Finds R (f a)) → Finds R (plan >>= f)
finds_bind f (finds_ok q) more = more _ q
finds_bind f finds_err more = finds_err
finds_bind f (finds_ask {c = c} is next) more = finds_ask {c = c} is (λ answer. finds_bind f (next answer) more)
finds_bind f (finds_look next) more = finds_look (λ ls. finds_bind f (next ls) more)

-- ---- the lock that is asked for

-- it has the client's token, and is on the path
pub record IsAsked (who : Caller) (p : PathText) (l : Lock) : Type 0 where
  pub token : who.token ≡ Some l.token
  pub path : l.path ≡ p

finds_unless : (verdict : Option ℕ) → Finds (λ u. ⊤) (unless_status verdict)
finds_unless None = finds_ok tt
finds_unless (Some status) = finds_err

finds_token : (h : LockHeaders) (p : PathText) (who : Caller) (found : Option DavMetaData) (deep : Bool) (info : LockInfo) (o : Option (List ℕ)) → who.token ≡ o
    → Finds (IsAsked who p) (followed_by (required o (dav.Status 500)) (λ token. require_parent (is_none found) (requester who (submitted h.conditions.lists)) (names p) (dav.Status 423) >>= (λ u. gives (lock_of h p who deep info token))))
finds_token h p who found deep info None is = finds_err
finds_token h p who found deep info (Some token) is =
    finds_bind _ (finds_only (only_parent (is_none found) (requester who (submitted h.conditions.lists)) (names p) (dav.Status 423))) (λ u any. finds_ok (record { token = is; path = refl }))

pub finds_asked : (h : LockHeaders) (p : PathText) (content : Body) (who : Caller) (found : Option DavMetaData) → Finds (IsAsked who p) (asked_lock h p content who found)
finds_asked h p content who found =
    finds_then (whole_depth h.depth) _ (λ deep.
    finds_bind _ (finds_only (only_conditions method.Lock h.conditions found)) (λ verdict any.
    finds_bind _ (finds_unless verdict) (λ u any.
    finds_then (required (lock_info content) dav.XmlParseError) _ (λ info.
    finds_token h p who found deep info who.token refl))))

-- ---- the list of locks

changes_found : {who : Caller} {ls : List Lock} {A B : Type 0} {Q : A → Type 0} {plan : MethodPlan A} (f : A → MethodPlan B) → Finds Q plan → ((a : A) → Q a → ChangesList who ls (f a)) → ChangesList who ls (plan >>= f)
changes_found f (finds_ok q) more = more _ q
changes_found f finds_err more = changes_done
changes_found f (finds_ask {c = c} is next) more = changes_ask (λ answer. changes_found f (next answer) more)
changes_found {ls = ls} f (finds_look next) more = changes_look (changes_found f (next (Some ls)) more)

module _ (who : Caller) where
  changes_kept : (ls : List Lock) (token : List ℕ) (p : Path) (timeout : Option ℕ) (now : ℕ) (a : Option Lock) (b : Option (List Lock)) → refreshed token p timeout now ls ≡ b → ChangesList who ls (keep_refreshed a b)
  changes_kept ls token p timeout now None b is = changes_done
  changes_kept ls token p timeout now (Some l) None is = changes_done
  changes_kept ls token p timeout now (Some l) (Some ms) is = changes_list (refreshes token p timeout now is) changes_done

  changes_again : (ls : List Lock) (h : LockHeaders) (p : PathText) (location : List Header) → ChangesList who ls (lock_again h p location who)
  changes_again ls h p location =
      changes_bind _ (changes_only (only_token h (names p) who)) (λ ks token.
      changes_look (changes_bind _ (changes_kept ks token (names p) (refreshed_for h.timeout) who.moment
      (option_map (refreshed_lock (refreshed_for h.timeout) who.moment) (named_lock token (names p) ks)) (refreshed token (names p) (refreshed_for h.timeout) who.moment ks) refl) (λ js l. changes_done)))

  -- the lock that was granted is taken back
  changes_back : (ls : List Lock) (token : List ℕ) (p : Path) {A : Type 0} (e : DavError) (f : Unit {0} → MethodPlan A) (o : Option (List Lock)) → unlocked token p ls ≡ o → is_some o ≡ true
      → ChangesList who ls (Keep (unwrap_or o ls) (fails e >>= f))
  changes_back ls token p e f None is some = cc
  changes_back ls token p e f (Some left) is some = changes_list (unlocks token p is) changes_done

  changes_made : (ls : List Lock) (new : Lock) (how : Opening) (p : PathText) (now : ℕ) (found : Option DavMetaData) (reply : Reply) → new.path ≡ p
      → ChangesList who (ls ++ new ∷ []) (make_empty how new.token (names p) now found >>= (λ made. gives reply))
  changes_made ls new how p now (Some m) reply same = changes_done
  changes_made ls new how p now None reply same = changes_ask (λ opened. by_answer opened)
    where
      by_answer : (opened : Result Handle FsError) → ChangesList who (ls ++ new ∷ []) (create_or_unlock how new.token (names p) opened >>= (λ made. gives reply))
      by_answer (Ok file) = changes_done
      by_answer (Err e) = changes_look (changes_back (ls ++ new ∷ []) new.token (names p) (empty_error how e) (λ made. gives reply)
          (unlocked new.token (names p) (ls ++ new ∷ [])) refl
          (ap (λ (q : PathText). is_some (unlocked new.token (names q) (ls ++ new ∷ []))) (sym same) ∙ granted_can_be_unlocked new ls))

  changes_granted : (ls : List Lock) (new : Lock) (b : Bool) {A : Type 0} (f : Unit {0} → MethodPlan A) → who.token ≡ Some new.token → is_grantable new ls ≡ b → ChangesList who (ls ++ new ∷ []) (f tt)
      → ChangesList who ls ((if b then Keep (ls ++ new ∷ []) (gives tt) else fails (dav.Status 423)) >>= f)
  changes_granted ls new true f own ok more = changes_list (grants new own ok) more
  changes_granted ls new false f own ok more = changes_done

  changes_new : (ls : List Lock) (h : LockHeaders) (p : PathText) (location : List Header) (content : Body) (found : Option DavMetaData) → ChangesList who ls (lock_new h p location content who found)
  changes_new ls h p location content found =
      changes_found _ (finds_asked h p content who found) (λ new asked.
      changes_look (changes_granted ls new (is_grantable new ls) _ asked.token refl
      (changes_made ls new (empty_opening h.conditions) p who.moment found (granted_reply (is_some found) location new) asked.path)))

  changes_by_body : (ls : List Lock) (h : LockHeaders) (p : PathText) (content : Body) (found : Option DavMetaData) (b : Bool)
      → ChangesList who ls (if b then lock_again h (path_found found p) (location_found found p) who else lock_new h (path_found found p) (location_found found p) content who found)
  changes_by_body ls h p content found true = changes_again ls h (path_found found p) (location_found found p)
  changes_by_body ls h p content found false = changes_new ls h (path_found found p) (location_found found p) content found

pub lock_changes_list : LockChangesList
lock_changes_list headers p content who ls plan (is_lock h are) =
    changes_look (changes_ask (λ answer. changes_by_body who ls h p content (result_ok answer) (is_absent content)))
