-- UNLOCK (RFC 4918, section 9.11).
use Rattle.std.specs.Prelude.{ℕ, List, Option, Some, None}
use Rattle.std.specs.Result.{result_ok}
use Rattle.dav_core.specs.declared.errors.DavError.TheVariants as dav
use Rattle.dav_core.specs.Asking.{Metadata}
use Rattle.dav_core.specs.Locks.{Lock, unlocked}
use Rattle.dav_core.specs.Path.{Path, PathText, names}
use Rattle.dav_engine.specs.declared.reply.ReplyBody.TheVariants as reply
use Rattle.dav_engine.specs.Caller.{Caller}
use Rattle.dav_engine.specs.Folder.{location_found}
use Rattle.dav_engine.specs.Headers.{Headers, Decodes}
use Rattle.dav_engine.specs.LockToken.{SaysLockToken}
use Rattle.dav_engine.specs.Method.{MethodPlan, ◌>>=◌, require_locks, required, look, answer_of, gives, fails}
use Rattle.dav_engine.specs.Plan.{Locks, Done, Keep}
use Rattle.dav_engine.specs.Reply.{Reply, Header}

-- Sets the list that is left without the lock; 409 where there was no such lock (RFC 4918, section 9.11.1).
abbrev pub keep_left : Option (List Lock) → MethodPlan (Unit {0})
keep_left None = fails (dav.Status 409)
keep_left (Some left) = Keep left (gives tt)

-- Ends the lock of this list that a token and a path name; 409 where they name none, 405 without a lock system.
abbrev pub end_in : List ℕ → Path → Locks → MethodPlan (Unit {0})
end_in token p None = fails (dav.Status 405)
end_in token p (Some ls) = keep_left (unlocked token p ls)

-- The reply to an UNLOCK: 204, with Content-Location where the path of a folder lacked its slash (RFC 4918, section 9.11.1).
abbrev pub unlocked_reply : List Header → Reply
unlocked_reply location = record { status = 204; headers = location; body = reply.Nothing }

-- Ends the lock that a token and a path name, and replies (RFC 4918, section 9.11).
abbrev pub end_lock : PathText → List ℕ → MethodPlan Reply
end_lock p token = do
  found ← answer_of (Metadata (names p))
  locks ← look
  _ ← end_in token (names p) locks
  gives (unlocked_reply (location_found (result_ok found) p))

-- The plan of an UNLOCK: 405 without a lock system; 400 without a token; 409 where no lock at the path or above it has the
-- token. No condition and no lock is checked, and anyone may end the lock, whoever its principal is (RFC 4918, section 9.11).
abbrev pub unlock : Option (List ℕ) → PathText → MethodPlan Reply
unlock token p = do
  _ ← require_locks (dav.Status 405)
  said ← Done (required token (dav.Status 400))
  end_lock p said

-- the plan is that of an UNLOCK with these headers, of this path, by this client (RFC 4918, section 9.11)
pub data IsUnlock (headers : Headers) (p : PathText) (who : Caller) : MethodPlan Reply → Type 0 where
  is_unlock : (token : Option (List ℕ)) → Decodes SaysLockToken headers token → IsUnlock headers p who (unlock token p)
