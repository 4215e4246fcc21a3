-- The reply to a LOCK may be sent, and so may the locks that it and an UNLOCK leave.
use Rattle.std.proofs.Common.{◌≡◌, ℕ, Bool, List, [], ◌∷◌, Option, Some, None, Result, Ok, Err, refl, subst}
use Rattle.std.specs.List.{AllByRecursion, find as first}
use Rattle.std.specs.Option.{option_map, option_and_then, unwrap_or, is_none}
use Rattle.std.specs.Result.{result_ok}
use Rattle.dav_core.specs.declared.errors.FsError.{FsError}
use Rattle.dav_core.specs.declared.errors.DavError.TheVariants as dav
use Rattle.dav_core.specs.declared.fs.DavMetaData.{DavMetaData}
use Rattle.dav_core.specs.declared.method.DavMethod.TheVariants as method
use Rattle.dav_core.specs.Asking.{Metadata, Open}
use Rattle.dav_core.specs.Handle.{Handle, Opening}
use Rattle.dav_core.specs.Lists.{without_first, change_first}
use Rattle.dav_core.specs.Locks.{Lock, is_grantable, has_token_at, lock_front, named_lock, refreshed, refreshed_lock, unlocked, deleted}
use Rattle.dav_core.specs.Path.{Path, PathText, names}
use Rattle.dav_engine.specs.declared.request.Body.{Body}
use Rattle.dav_engine.specs.declared.request.Body.TheVariants as body
use Rattle.dav_engine.specs.Caller.{Caller, requester}
use Rattle.dav_engine.specs.Conditions.{submitted}
use Rattle.dav_engine.specs.Delete.{whole_depth}
use Rattle.dav_engine.specs.Folder.{is_folder_found, path_found, location_found}
use Rattle.dav_engine.specs.Lock.{keep_refreshed, refresh_in, lock_again, lock_of, asked_lock, grant_in, taken_back, empty_opening, create_or_unlock, make_empty, lock_new, is_absent, lock}
use Rattle.dav_engine.specs.LockHeaders.{LockHeaders, refreshed_for}
use Rattle.dav_engine.specs.LockInfo.{LockInfo, lock_info}
use Rattle.dav_engine.specs.Method.{has_locks, required, set_by, change_locks, drop_locks}
use Rattle.dav_engine.specs.Plan.{Locks}
use Rattle.dav_engine.specs.Reply.{Header}
use Rattle.dav_engine.specs.Unlock.{keep_left, end_in, unlock}
use Rattle.dav_engine.proofs.LockPlans.{only_status, only_token, required_is}
use Rattle.dav_engine.proofs.LockListLemmas.{mapped_from}
use Rattle.dav_engine.proofs.PutWorld.{only_conditions, only_parent}
use Rattle.dav_http.specs.Sent.{IsSendableTextIfAny, IsSendableText, IsSendableIfAny, IsSendableLock, AreSendableLocks, IsSendableBody}
use Rattle.dav_http.proofs.Each.{each_append, each_filter, each_without_first, each_change_first, each_first}
use Rattle.dav_http.proofs.SentFinds.{IsSent}
use Rattle.dav_http.proofs.SentNames.{HasPath, closed_path}
use Rattle.dav_http.proofs.SentParts.{lock_told_sendable}
use Rattle.dav_http.proofs.SentPlans.{Sends, sends_ok, sends_err, sends_ask, sends_look, sends_keep, sends_then, sends_bind, sends_looked, sends_either, sends_required}

abbrev AllLocks : List Lock → Type 0
AllLocks ls = AllByRecursion IsSendableLock ls

abbrev pub Any : {A : Type 0} → A → Type 0
Any a = Unit {0}

-- ---- lists that are changed

pub change_sends : (f : List Lock → List Lock) → ((ls : List Lock) → AllLocks ls → AllLocks (f ls)) → Sends Any (change_locks f)
change_sends f keeps = sends_look (λ ls all. set ls all)
  where
    set : (ls : Locks) → AreSendableLocks ls → Sends Any (set_by f ls)
    set None all = sends_ok tt
    set (Some ls) all = sends_keep (keeps ls all) (sends_ok tt)

pub drop_sends : (p : Path) → Sends Any (drop_locks p)
drop_sends p = change_sends (deleted p) (λ ls all. each_filter IsSendableLock _ ls all)

left_sendable : (token : List ℕ) (p : Path) (ls : List Lock) → AllLocks ls → (left : List Lock) → unlocked token p ls ≡ Some left → AllLocks left
left_sendable token p ls all left is =
    let (q, there, same) = mapped_from (λ q. without_first (has_token_at token q) ls) (lock_front token p ls) left is in
    subst AllLocks same (each_without_first IsSendableLock (has_token_at token q) ls all)

back_sendable : (ls : List Lock) (o : Option (List Lock)) → AllLocks ls → ((left : List Lock) → o ≡ Some left → AllLocks left) → AllLocks (unwrap_or o ls)
back_sendable ls None all h = all
back_sendable ls (Some left) all h = h left refl

anew : (timeout : Option ℕ) (now : ℕ) (l : Lock) → IsSendableLock l → IsSendableLock (refreshed_lock timeout now l)
anew timeout now l h = record { token = h.token; path = h.path; owner = h.owner }

refreshed_sendable : (token : List ℕ) (p : Path) (timeout : Option ℕ) (now : ℕ) (ls : List Lock) → AllLocks ls → (left : List Lock) → refreshed token p timeout now ls ≡ Some left → AllLocks left
refreshed_sendable token p timeout now ls all left is =
    let (q, there, same) = mapped_from (λ q. change_first (has_token_at token q) (refreshed_lock timeout now) ls) (lock_front token p ls) left is in
    subst AllLocks same (each_change_first IsSendableLock (has_token_at token q) (refreshed_lock timeout now) (anew timeout now) ls all)

named_sendable : (token : List ℕ) (ls : List Lock) (o : Option Path) → AllLocks ls → (l : Lock) → option_and_then (λ q. first (has_token_at token q) ls) o ≡ Some l → IsSendableLock l
named_sendable token ls None all l is = absurd cc
named_sendable token ls (Some q) all l is = each_first IsSendableLock (has_token_at token q) ls all l is

-- ---- a lock that is refreshed

kept_sends : (o : Option Lock) (left : Option (List Lock)) → ((l : Lock) → o ≡ Some l → IsSendableLock l) → ((ls : List Lock) → left ≡ Some ls → AllLocks ls) → Sends IsSendableLock (keep_refreshed o left)
kept_sends None left one all = sends_err
kept_sends (Some l) None one all = sends_err
kept_sends (Some l) (Some ls) one all = sends_keep (all ls refl) (sends_ok (one l refl))

refresh_sends : (token : List ℕ) (p : Path) (timeout : Option ℕ) (now : ℕ) (ls : Locks) → AreSendableLocks ls → Sends IsSendableLock (refresh_in token p timeout now ls)
refresh_sends token p timeout now None all = sends_err
refresh_sends token p timeout now (Some ls) all =
    kept_sends (option_map (refreshed_lock timeout now) (named_lock token p ls)) (refreshed token p timeout now ls)
    (λ l is.
    let (m, there, same) = mapped_from (refreshed_lock timeout now) (named_lock token p ls) l is in
    subst IsSendableLock same (anew timeout now m (named_sendable token ls (lock_front token p ls) all m there)))
    (λ left is. refreshed_sendable token p timeout now ls all left is)

again_sends : (h : LockHeaders) (p : PathText) (location : List Header) (who : Caller) → Sends IsSent (lock_again h p location who)
again_sends h p location who =
    sends_looked _ (only_token h (names p) who) (λ token. sends_look (λ ls all.
    sends_bind _ (refresh_sends token (names p) (refreshed_for h.timeout) who.moment ls all) (λ l one. sends_ok (lock_told_sendable l one))))

-- ---- a new lock

grant_sends : (new : Lock) (ls : Locks) → IsSendableLock new → AreSendableLocks ls → Sends Any (grant_in new ls)
grant_sends new None one all = sends_err
grant_sends new (Some ls) one all = sends_either (is_grantable new ls) _ _ (sends_keep (each_append IsSendableLock ls (new ∷ []) all (one, tt)) (sends_ok tt)) sends_err

back_sends : (how : Opening) (token : List ℕ) (p : Path) (opened : Result Handle FsError) → Sends Any (create_or_unlock how token p opened)
back_sends how token p (Ok file) = sends_ok tt
back_sends how token p (Err e) = sends_bind _ (change_sends (taken_back token p) (λ ls all. back_sendable ls (unlocked token p ls) all (λ left is. left_sendable token p ls all left is))) (λ u v. sends_err)

empty_sends : (how : Opening) (token : List ℕ) (p : Path) (now : ℕ) (found : Option DavMetaData) → Sends Any (make_empty how token p now found)
empty_sends how token p now (Some found) = sends_ok tt
empty_sends how token p now None = sends_ask {c = Open p how now} tt (λ opened says. back_sends how token p opened)

text_there : (o : Option (List ℕ)) (bytes : List ℕ) → IsSendableTextIfAny o → o ≡ Some bytes → IsSendableText bytes
text_there None bytes h is = absurd cc
text_there (Some xs) bytes h is = let same : xs ≡ bytes = cc in subst IsSendableText same h

info_owner : (content : Body) → IsSendableBody content → (info : LockInfo) → lock_info content ≡ Some info → IsSendableIfAny info.owner
info_owner body.None h info is = absurd cc
info_owner (body.Bytes bytes) h info is = absurd cc
info_owner body.Malformed h info is = absurd cc
info_owner (body.Tree tree) h info is = h.1 info is

asked_sends : (h : LockHeaders) (p : PathText) (content : Body) (who : Caller) (found : Option DavMetaData) → HasPath p → IsSendableBody content → IsSendableTextIfAny who.token
    → Sends IsSendableLock (asked_lock h p content who found)
asked_sends h p content who found some given token =
    sends_then (whole_depth h.depth) _ (λ deep _.
    sends_looked _ (only_conditions method.Lock h.conditions found) (λ verdict.
    sends_looked _ (only_status verdict) (λ goes.
    sends_then (required (lock_info content) dav.XmlParseError) _ (λ info is.
    sends_then (required who.token (dav.Status 500)) _ (λ own has.
    sends_looked _ (only_parent (is_none found) (requester who (submitted h.conditions.lists)) (names p) (dav.Status 423)) (λ free.
    sends_ok (granted deep info own (required_is (lock_info content) dav.XmlParseError info is) (required_is who.token (dav.Status 500) own has))))))))
  where
    granted : (deep : Bool) (info : LockInfo) (own : List ℕ) → lock_info content ≡ Some info → who.token ≡ Some own → IsSendableLock (lock_of h p who deep info own)
    granted deep info own is has = record { token = text_there who.token own token has; path = some; owner = info_owner content given info is }

new_sends : (h : LockHeaders) (p : PathText) (location : List Header) (content : Body) (who : Caller) (found : Option DavMetaData) → HasPath p → IsSendableBody content → IsSendableTextIfAny who.token
    → Sends IsSent (lock_new h p location content who found)
new_sends h p location content who found some given token =
    sends_bind _ (asked_sends h p content who found some given token) (λ new one. sends_look (λ ls all.
    sends_bind _ (grant_sends new ls one all) (λ u v.
    sends_bind _ (empty_sends (empty_opening h.conditions) new.token (names p) who.moment found) (λ u v. sends_ok (lock_told_sendable new one)))))

pub lock_sends : (h : LockHeaders) (p : PathText) (content : Body) (who : Caller) → HasPath p → IsSendableBody content → IsSendableTextIfAny who.token → Sends IsSent (lock h p content who)
lock_sends h p content who some given token = sends_look (λ ls all.
    sends_required (has_locks ls) (dav.Status 405) _ (sends_ask {c = Metadata (names p)} tt (λ answer says.
    let found = result_ok answer in
    sends_either (is_absent content) (lock_again h (path_found found p) (location_found found p) who) (lock_new h (path_found found p) (location_found found p) content who found)
    (again_sends h (path_found found p) (location_found found p) who)
    (new_sends h (path_found found p) (location_found found p) content who found (closed_path (is_folder_found found) p some) given token))))

-- ---- UNLOCK

keep_sends : (left : Option (List Lock)) → ((ls : List Lock) → left ≡ Some ls → AllLocks ls) → Sends Any (keep_left left)
keep_sends None all = sends_err
keep_sends (Some ls) all = sends_keep (all ls refl) (sends_ok tt)

end_sends : (token : List ℕ) (p : Path) (ls : Locks) → AreSendableLocks ls → Sends Any (end_in token p ls)
end_sends token p None all = sends_err
end_sends token p (Some ls) all = keep_sends (unlocked token p ls) (λ left is. left_sendable token p ls all left is)

pub unlock_sends : (token : Option (List ℕ)) (p : PathText) → Sends IsSent (unlock token p)
unlock_sends token p = sends_look (λ ls all.
    sends_required (has_locks ls) (dav.Status 405) _ (sends_then (required token (dav.Status 400)) _ (λ said is.
    sends_ask {c = Metadata (names p)} tt (λ answer says. sends_look (λ ks more.
    sends_bind _ (end_sends said (names p) ks more) (λ u v. sends_ok tt))))))
