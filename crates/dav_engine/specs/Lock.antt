-- LOCK (RFC 4918, sections 6, 7 and 9.10).
use Rattle.std.specs.Prelude.{ℕ, ◌++◌, ◌==◌, Bool, true, false, not, List, [], ◌∷◌, length, codes, if◌then◌else◌, Option, Some, None, Result, Ok, Err}
use Rattle.std.specs.Option.{is_some, is_none, option_map, unwrap_or}
use Rattle.std.specs.Result.{result_ok}
use Rattle.dav_core.specs.declared.errors.FsError.{FsError}
use Rattle.dav_core.specs.declared.errors.FsError.TheVariants as fs
use Rattle.dav_core.specs.declared.errors.DavError.{DavError}
use Rattle.dav_core.specs.declared.errors.DavError.TheVariants as dav
use Rattle.dav_core.specs.declared.fs.DavMetaData.{DavMetaData}
use Rattle.dav_core.specs.declared.method.DavMethod.TheVariants as method
use Rattle.dav_core.specs.Asking.{Metadata, Open}
use Rattle.dav_core.specs.Handle.{Handle, Opening}
use Rattle.dav_core.specs.Locks.{Lock, new_lock, is_grantable, named_lock, refreshed, refreshed_lock, unlocked}
use Rattle.dav_core.specs.Metadata.{no_opening}
use Rattle.dav_core.specs.Path.{Path, PathText, names}
use Rattle.dav_engine.specs.declared.reply.ReplyBody.TheVariants as reply
use Rattle.dav_engine.specs.declared.request.Body.{Body}
use Rattle.dav_engine.specs.declared.request.Body.TheVariants as body
use Rattle.dav_engine.specs.Caller.{Caller, requester}
use Rattle.dav_engine.specs.Conditions.{Conditions, is_star, dav_if_match, if_match, submitted}
use Rattle.dav_engine.specs.Delete.{whole_depth}
use Rattle.dav_engine.specs.Folder.{path_found, location_found}
use Rattle.dav_engine.specs.Headers.{Headers}
use Rattle.dav_engine.specs.LockHeaders.{LockHeaders, AreLockHeaders, granted_for, refreshed_for}
use Rattle.dav_engine.specs.LockInfo.{LockInfo, lock_info}
use Rattle.dav_engine.specs.LockScope.{is_shared}
use Rattle.dav_engine.specs.LockTree.{lock_reply}
use Rattle.dav_engine.specs.Method.{MethodPlan, ◌>>=◌, require_free, require_parent, require_locks, required, change_locks, unless_status, look, answer_of, gives, fails}
use Rattle.dav_engine.specs.Multistatus.{xml_type}
use Rattle.dav_engine.specs.Plan.{Locks, Done, Keep}
use Rattle.dav_engine.specs.Put.{missing_status}
use Rattle.dav_engine.specs.Reply.{Reply, Header}

-- ---- a lock that is refreshed (RFC 4918, section 9.10.2)

-- The only token that is submitted; 400 where there is none or several (RFC 4918, section 9.10.2).
abbrev pub one_token : List (List ℕ) → Result (List ℕ) DavError
one_token (token ∷ []) = Ok token
one_token tokens = Err (dav.Status 400)

-- The token of the lock that is to be refreshed: the only one that If submits, whether or not If holds; 412 where with it the path
-- is still locked against the client (RFC 4918, section 9.10.2).
abbrev pub token_to_refresh : LockHeaders → Path → Caller → MethodPlan (List ℕ)
token_to_refresh h p who = do
  said ← dav_if_match h.conditions.lists
  token ← Done (one_token said.1)
  _ ← require_free false (requester who (token ∷ [])) p (dav.Status 412)
  gives token

-- Sets the list with the refreshed lock, and gives the lock; 412 where the token and the path named none.
abbrev pub keep_refreshed : Option Lock → Option (List Lock) → MethodPlan Lock
keep_refreshed None left = fails (dav.Status 412)
keep_refreshed (Some l) None = fails (dav.Status 412)
keep_refreshed (Some l) (Some ls) = Keep ls (gives l)

-- Refreshes the lock of this list that a token and a path name; 412 where they name none, 405 without a lock system.
abbrev pub refresh_in : List ℕ → Path → Option ℕ → ℕ → Locks → MethodPlan Lock
refresh_in token p timeout now None = fails (dav.Status 405)
refresh_in token p timeout now (Some ls) = keep_refreshed (option_map (refreshed_lock timeout now) (named_lock token p ls)) (refreshed token p timeout now ls)

-- Gives the lock that a token and a path name a new timeout (RFC 4918, section 9.10.2).
abbrev pub refresh : List ℕ → Path → Option ℕ → ℕ → MethodPlan Lock
refresh token p timeout now = do
  locks ← look
  refresh_in token p timeout now locks

-- The reply to a refresh: 200, with the lock (RFC 4918, section 9.10.2).
abbrev pub refreshed_reply : List Header → Lock → Reply
refreshed_reply location l = record { status = 200; headers = location ++ xml_type ∷ []; body = reply.Tree (lock_reply l) }

-- A LOCK without a body, which refreshes a lock (RFC 4918, section 9.10.2).
abbrev pub lock_again : LockHeaders → PathText → List Header → Caller → MethodPlan Reply
lock_again h p location who = do
  token ← token_to_refresh h (names p) who
  l ← refresh token (names p) (refreshed_for h.timeout) who.moment
  gives (refreshed_reply location l)

-- ---- a new lock

-- The lock that a body asks for, with this token (RFC 4918, section 9.10.1).
abbrev pub lock_of : LockHeaders → PathText → Caller → Bool → LockInfo → List ℕ → Lock
lock_of h p who deep info token = new_lock token p who.principal info.owner (granted_for info.scope h.timeout) (is_shared info.scope) deep who.moment

-- The lock that is asked for. 400 for Depth 1; then the status with which the conditions answer; 400 for a body that asks for
-- no lock; 500 where there is no token for it; 423 where nothing was found at the path, and a lock on the folder above it
-- conflicts (RFC 4918, sections 7.4 and 9.10).
abbrev pub asked_lock : LockHeaders → PathText → Body → Caller → Option DavMetaData → MethodPlan Lock
asked_lock h p content who found = do
  deep ← Done (whole_depth h.depth)
  verdict ← if_match method.Lock h.conditions found
  _ ← unless_status verdict
  info ← Done (required (lock_info content) dav.XmlParseError)
  token ← Done (required who.token (dav.Status 500))
  _ ← require_parent (is_none found) (requester who (submitted h.conditions.lists)) (names p) (dav.Status 423)
  gives (lock_of h p who deep info token)

-- Grants a lock in this list, at its end; 423 where it isn't grantable, 405 without a lock system.
abbrev pub grant_in : Lock → Locks → MethodPlan (Unit {0})
grant_in new None = fails (dav.Status 405)
grant_in new (Some ls) = if is_grantable new ls then Keep (ls ++ new ∷ []) (gives tt) else fails (dav.Status 423)

-- Grants a lock, at the end of the list; 423 where another lock conflicts (RFC 4918, section 9.10.6).
abbrev pub grant : Lock → MethodPlan (Unit {0})
grant new = do
  locks ← look
  grant_in new locks

-- The list without the lock that a token and a path name, if they name one.
abbrev pub taken_back : List ℕ → Path → List Lock → List Lock
taken_back token p ls = unwrap_or (unlocked token p ls) ls

-- How the empty file at a locked path is opened: to write; it is created, unless If-Match is `*`; and with If-None-Match `*`
-- nothing may be there (RFC 4918, section 7.3).
abbrev pub empty_opening : Conditions → Opening
empty_opening c = record no_opening { write = true; create = not (is_star c.if_match); create_new = is_star c.if_none_match }

-- The error of a LOCK whose empty file isn't opened: that of `missing_status` where it is missing or already there; any other refusal as it is.
abbrev pub empty_error : Opening → FsError → DavError
empty_error how fs.NotFound = dav.Status (missing_status how)
empty_error how fs.Exists = dav.Status (missing_status how)
empty_error how e = dav.FsError e

-- Goes on where the empty file was opened; where that was refused, the lock is taken back, and the LOCK fails.
abbrev pub create_or_unlock : Opening → List ℕ → Path → Result Handle FsError → MethodPlan (Unit {0})
create_or_unlock how token p (Ok file) = gives tt
create_or_unlock how token p (Err e) = do
  _ ← change_locks (taken_back token p)
  fails (empty_error how e)

-- Opens an empty file at a path that was locked; where that is refused, takes the lock back and fails (RFC 4918, section 7.3).
abbrev pub open_empty : Opening → List ℕ → Path → ℕ → MethodPlan (Unit {0})
open_empty how token p now = do
  opened ← answer_of (Open p how now)
  create_or_unlock how token p opened

-- Creates an empty file at the path of the lock, where nothing was found there (RFC 4918, section 7.3).
abbrev pub make_empty : Opening → List ℕ → Path → ℕ → Option DavMetaData → MethodPlan (Unit {0})
make_empty how token p now (Some found) = gives tt
make_empty how token p now None = open_empty how token p now

-- The Lock-Token header of a new lock: its token in angle brackets (RFC 4918, section 10.5).
abbrev pub lock_token_header : List ℕ → Header
lock_token_header token = (codes "lock-token", 60 ∷ (token ++ 62 ∷ []))

-- The reply to a new lock: 201 where nothing was found at its path, else 200, with the lock and its token (RFC 4918, sections 9.10.1 and 9.10.4).
abbrev pub granted_reply : Bool → List Header → Lock → Reply
granted_reply found location new = record {
  status = if found then 200 else 201;
  headers = location ++ xml_type ∷ lock_token_header new.token ∷ [];
  body = reply.Tree (lock_reply new);
}

-- A LOCK with a body, which asks for a new lock (RFC 4918, section 9.10).
abbrev pub lock_new : LockHeaders → PathText → List Header → Body → Caller → Option DavMetaData → MethodPlan Reply
lock_new h p location content who found = do
  new ← asked_lock h p content who found
  _ ← grant new
  _ ← make_empty (empty_opening h.conditions) new.token (names p) who.moment found
  gives (granted_reply (is_some found) location new)

-- ---- the method

-- Whether a request has no body; one of no bytes is none.
abbrev pub is_absent : Body → Bool
is_absent body.None = true
is_absent (body.Bytes bytes) = length bytes == 0
is_absent (body.Tree tree) = false
is_absent body.Malformed = false

-- A LOCK of what was found at its path: without a body a lock is refreshed (RFC 4918, section 9.10.2).
abbrev pub lock_found : LockHeaders → PathText → Body → Caller → Option DavMetaData → MethodPlan Reply
lock_found h p content who found =
    if is_absent content then lock_again h (path_found found p) (location_found found p) who
    else lock_new h (path_found found p) (location_found found p) content who found

-- The plan of a LOCK, with what its headers say; 405 without a lock system (RFC 4918, section 9.10).
abbrev pub lock : LockHeaders → PathText → Body → Caller → MethodPlan Reply
lock h p content who = do
  _ ← require_locks (dav.Status 405)
  found ← answer_of (Metadata (names p))
  lock_found h p content who (result_ok found)

-- the plan is that of a LOCK with these headers and this body, to a path, by this client (RFC 4918, section 9.10)
pub data IsLock (headers : Headers) (p : PathText) (content : Body) (who : Caller) : MethodPlan Reply → Type 0 where
  is_lock : (h : LockHeaders) → AreLockHeaders headers p h → IsLock headers p content who (lock h p content who)
