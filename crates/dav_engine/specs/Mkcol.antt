-- MKCOL (RFC 4918, section 9.3).
use Rattle.std.specs.Prelude.{false, not, [], ◌∷◌, if◌then◌else◌, Result}
use Rattle.std.specs.Result.{is_ok, result_ok}
use Rattle.dav_core.specs.declared.errors.FsError.{FsError}
use Rattle.dav_core.specs.declared.errors.FsError.TheVariants as fs
use Rattle.dav_core.specs.declared.errors.DavError.{DavError}
use Rattle.dav_core.specs.declared.errors.DavError.TheVariants as dav
use Rattle.dav_core.specs.declared.fs.DavMetaData.{DavMetaData}
use Rattle.dav_core.specs.declared.method.DavMethod.TheVariants.{MkCol}
use Rattle.dav_core.specs.Asking.{Metadata, CreateDir}
use Rattle.dav_core.specs.Path.{PathText, names, is_collection}
use Rattle.dav_engine.specs.declared.reply.ReplyBody.TheVariants as reply
use Rattle.dav_engine.specs.Caller.{Caller, requester}
use Rattle.dav_engine.specs.Conditions.{Conditions, AreConditions, guarded}
use Rattle.dav_engine.specs.Headers.{Headers}
use Rattle.dav_engine.specs.Method.{MethodPlan, ◌>>=◌, require_member, answer_of, ask_or, gives}
use Rattle.dav_engine.specs.Reply.{Reply, content_location}

-- The reply to a MKCOL that created its folder: 201, with Content-Location where the request's path ends in a slash
-- (RFC 4918, section 9.3.1; RFC 9110, section 8.7).
abbrev pub made : PathText → Reply
made p = record { status = 201; headers = if is_collection p.bytes then content_location p ∷ [] else []; body = reply.Nothing }

-- The error of a MKCOL whose folder isn't created: 405 where something is there, 409 where no folder is above it; any other
-- refusal as it is (RFC 4918, section 9.3.1).
abbrev pub create_error : FsError → DavError
create_error fs.Exists = dav.Status 405
create_error fs.NotFound = dav.Status 409
create_error e = dav.FsError e

-- The checks before the folder is created: 412 where a condition fails, 423 where a lock conflicts, on the path or, where
-- nothing was found there, on the folder above it (RFC 4918, sections 7.4 and 7.5).
abbrev pub mkcol_checks : Conditions → PathText → Caller → Result DavMetaData FsError → MethodPlan (Unit {0})
mkcol_checks c p who found = do
  tokens ← guarded dav.Status MkCol c (result_ok found)
  require_member false (not (is_ok found)) (requester who tokens) (names p) (dav.Status 423)

-- Asks the store what is at the path, and makes the checks.
abbrev pub mkcol_allowed : Conditions → PathText → Caller → MethodPlan (Unit {0})
mkcol_allowed c p who = do
  found ← answer_of (Metadata (names p))
  mkcol_checks c p who found

-- MKCOL, with the conditions of its headers (RFC 4918, section 9.3)
abbrev pub mkcol : Conditions → PathText → Caller → MethodPlan Reply
mkcol c p who = do
  _ ← mkcol_allowed c p who
  _ ← ask_or create_error (CreateDir (names p) who.moment)
  gives (made p)

-- The plan of a MKCOL with these headers, to a path, by this client (RFC 4918, section 9.3).
pub data IsMkcol (headers : Headers) (p : PathText) (who : Caller) : MethodPlan Reply → Type 0 where
  is_mkcol : (c : Conditions) → AreConditions headers p.prefix (names p) c → IsMkcol headers p who (mkcol c p who)
