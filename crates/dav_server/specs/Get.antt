-- GET and HEAD (RFC 9110, sections 9.3.1 and 9.3.2).
use Rattle.std.specs.Prelude.{ℕ, ◌==◌, ◌++◌, not, true, List, [], ◌∷◌, length, codes, if◌then◌else◌, Option, Some, None}
use Rattle.dav_core.specs.declared.errors.DavError.TheVariants as dav
use Rattle.dav_core.specs.declared.fs.DavMetaData.{DavMetaData}
use Rattle.dav_core.specs.declared.method.DavMethod.{DavMethod}
use Rattle.dav_core.specs.declared.method.DavMethod.TheVariants.{Head}
use Rattle.dav_core.specs.Asking.{Metadata, Open, Read}
use Rattle.dav_core.specs.Handle.{Opening}
use Rattle.dav_core.specs.Metadata.{no_opening}
use Rattle.dav_core.specs.Path.{Path, PathText, names}
use Rattle.dav_engine.specs.declared.reply.ReplyBody.TheVariants as reply
use Rattle.dav_engine.specs.declared.request.DavRequest.{DavRequest}
use Rattle.dav_engine.specs.Conditions.{Conditions, AreConditions, if_match}
use Rattle.dav_engine.specs.Headers.{Headers}
use Rattle.dav_engine.specs.Method.{MethodPlan, ◌>>=◌, require, ask_for, gives, fails}
use Rattle.dav_engine.specs.Reply.{Reply, Header, content_length, tag_headers, last_modified}

-- the headers of a 200 about a file of this length: Content-Length, Content-Type (`application/octet-stream`), ETag where the file has a
-- change number, and Last-Modified
abbrev pub file_headers : ℕ → DavMetaData → List Header
file_headers len file = content_length len ∷ (codes "content-type", codes "application/octet-stream") ∷ (tag_headers file.number ++ last_modified file.modified ∷ [])

-- the reply to GET: 200 with the file's bytes
abbrev pub shown : DavMetaData → List ℕ → Reply
shown file bytes = record { status = 200; headers = file_headers (length bytes) file; body = reply.Bytes bytes }

-- the reply to HEAD: 200 with the headers of GET, and without the bytes (RFC 9110, section 9.3.2)
abbrev pub told : DavMetaData → Reply
told file = record { status = 200; headers = file_headers file.len file; body = reply.Nothing }

-- the reply where the client has the file already: 304 with the ETag alone (RFC 9110, section 15.4.5)
abbrev pub not_modified : DavMetaData → Reply
not_modified file = record { status = 304; headers = tag_headers file.number; body = reply.Nothing }

-- the options of a file that is opened for reading only
abbrev pub reading : Opening
reading = record no_opening { read = true }

-- Answers GET with the file's bytes: opens the file for reading, and reads as many bytes as its length was reported to be (RFC 9110,
-- section 9.3.1).
abbrev pub show : Path → ℕ → DavMetaData → MethodPlan Reply
show p now found = do
  file ← ask_for (Open p reading now)
  bytes ← ask_for (Read file found.len)
  gives (shown found bytes.0)

-- HEAD is answered without opening the file, GET with its bytes (RFC 9110, sections 9.3.1 and 9.3.2)
abbrev pub show_or_tell : DavMethod → Path → ℕ → DavMetaData → MethodPlan Reply
show_or_tell Head p now found = gives (told found)
show_or_tell _ p now found = show p now found

-- Goes on where the conditions give no status; else 304 is the reply with the ETag, and any other status is an error (RFC 9110, section
-- 13.2.2).
abbrev pub unless_condition_status : Option ℕ → DavMetaData → MethodPlan Reply → MethodPlan Reply
unless_condition_status None found next = next
unless_condition_status (Some status) found next = if status == 304 then gives (not_modified found) else fails (dav.Status status)

-- The plan of a GET or HEAD of p with these conditions: 405 for a folder, before the conditions are evaluated; then their status, if they
-- give one; else 200 (RFC 9110, sections 9.3.1 and 9.3.2).
abbrev pub get : DavMethod → Conditions → Path → ℕ → MethodPlan Reply
get m c p now = do
  found ← ask_for (Metadata p)
  _ ← require (not found.dir) (dav.Status 405)
  verdict ← if_match m c (Some found)
  unless_condition_status verdict found (show_or_tell m p now found)

-- The plan is that of a GET or HEAD of a path with these headers, at a moment (RFC 9110, sections 9.3.1 and 9.3.2).
pub data IsGet (m : DavMethod) (headers : Headers) (p : PathText) (now : ℕ) : MethodPlan Reply → Type 0 where
  is_get : (c : Conditions) → AreConditions headers p.prefix (names p) c → IsGet m headers p now (get m c (names p) now)

-- the plan is that of this GET or HEAD request at a moment (RFC 9110, sections 9.3.1 and 9.3.2)
abbrev pub GetOf : DavRequest → ℕ → MethodPlan Reply → Type 0
GetOf request now = IsGet request.method request.headers request.path now
