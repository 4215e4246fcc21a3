-- PUT (RFC 9110, section 9.3.4; RFC 4918, section 9.7) and PATCH (RFC 5789, with SabreDAV's partial updates).
use Rattle.std.specs.Prelude.{◌≡◌, ◌⊎◌, ℕ, ◌+◌, ◌-◌, ◌++◌, ◌==◌, ◌||◌, ◌&&◌, nat_lt, bytes_eq, Bool, true, false, not, List, [], ◌∷◌, length, codes, if◌then◌else◌, Option, Some, None, Result, Ok, Err}
use Rattle.std.specs.declared.io.traits.SeekFrom.TheVariants.{Start}
use Rattle.std.specs.Option.{is_none, option_or}
use Rattle.std.specs.Result.{is_ok, result_ok}
use Rattle.http_header.specs.FieldValue.{FieldValue}
use Rattle.http_header.specs.HeaderMap.{get, get_all}
use Rattle.dav_core.specs.declared.errors.FsError.{FsError}
use Rattle.dav_core.specs.declared.errors.FsError.TheVariants as fs
use Rattle.dav_core.specs.declared.errors.DavError.{DavError}
use Rattle.dav_core.specs.declared.errors.DavError.TheVariants as dav
use Rattle.dav_core.specs.declared.fs.DavMetaData.{DavMetaData}
use Rattle.dav_core.specs.declared.method.DavMethod.{DavMethod}
use Rattle.dav_core.specs.declared.method.DavMethod.TheVariants.{Patch}
use Rattle.dav_core.specs.Asking.{Metadata, Open, Write, Seek, Flush, FileMetadata}
use Rattle.dav_core.specs.Handle.{Handle, Opening}
use Rattle.dav_core.specs.Metadata.{no_opening}
use Rattle.dav_core.specs.Numbers.{max_u64}
use Rattle.dav_core.specs.Path.{Path, PathText, names}
use Rattle.dav_headers.specs.ContentRange.{IsContentRange}
use Rattle.dav_headers.specs.Length.{IsContentLength}
use Rattle.dav_headers.specs.UpdateRange.{IsUpdateRange}
use Rattle.dav_headers.specs.Value.{only_text, IsNumber}
use Rattle.dav_headers.specs.declared.range.ContentRange.{ContentRange}
use Rattle.dav_headers.specs.declared.range.XUpdateRange.{XUpdateRange}
use Rattle.dav_headers.specs.declared.range.XUpdateRange.TheVariants.{FromTo, AllFrom, Last, Append}
use Rattle.dav_engine.specs.declared.methods.put.headers.Bounds.{Bounds}
use Rattle.dav_engine.specs.declared.methods.put.headers.Bounds.TheVariants.{Unread, Whole, Within}
use Rattle.dav_engine.specs.declared.methods.put.headers.Writing.{Writing}
use Rattle.dav_engine.specs.declared.reply.ReplyBody.TheVariants as reply
use Rattle.dav_engine.specs.declared.request.Body.{Body}
use Rattle.dav_engine.specs.declared.request.Body.TheVariants as body
use Rattle.dav_engine.specs.Caller.{Caller, requester}
use Rattle.dav_engine.specs.Conditions.{Conditions, AreConditions, is_star, guarded}
use Rattle.dav_engine.specs.Method.{MethodPlan, ◌>>=◌, require, require_member, answer_of, ask_or, ask_for, gives, fails}
use Rattle.dav_engine.specs.Plan.{Done}
use Rattle.dav_engine.specs.Headers.{Headers, Decodes, text_in}
use Rattle.dav_engine.specs.Reply.{Reply, content_length, validators}

-- ---- what the headers say

-- What the headers of a PUT or PATCH say: its conditions; the length that is announced for the body; the part of the file that
-- Content-Range names; whether the body is a partial update, and of which bytes; and the checksum that comes with the body.
pub record PutHeaders : Type 0 where
  pub conditions : Conditions
  pub announced : Option ℕ
  pub range : Bounds
  pub is_partial : Bool
  pub update : Option XUpdateRange
  pub checksum : Option (List ℕ)

-- the length that X-Expected-Entity-Length announces: its first value, where that is a number
abbrev pub IsExpectedLength : List FieldValue → ℕ → Type 0
IsExpectedLength values n = (v : FieldValue) × (vs : List FieldValue) × (values ≡ v ∷ vs) × IsNumber v.bytes n

-- The length that is announced: that of Content-Length (RFC 9110, section 8.6), else that of X-Expected-Entity-Length.
abbrev pub IsAnnounced : Headers → Option ℕ → Type 0
IsAnnounced headers announced =
    (length : Option ℕ) × (expected : Option ℕ)
    × Decodes IsContentLength (get_all headers (codes "content-length")) length
    × Decodes IsExpectedLength (get_all headers (codes "x-expected-entity-length")) expected
    × (announced ≡ option_or length expected)

-- What Content-Range says (RFC 9110, section 14.4): unread where the header is there and is no range; the whole file where
-- it isn't there, or has no bounds; else the bytes from one place to another.
abbrev pub TellsBounds : List FieldValue → Bounds → Type 0
TellsBounds values Unread = ((values ≡ []) → ⊥) × ((range : ContentRange) → ¬ IsContentRange values range)
TellsBounds values Whole = (values ≡ []) ⊎ ((length : Option ℕ) × IsContentRange values record { bounds = None; length = length })
TellsBounds values (Within a b) = (length : Option ℕ) × IsContentRange values record { bounds = Some (a, b); length = length }

-- the part of a file that a range names
abbrev pub bounds_of : Option (ℕ × ℕ) → Bounds
bounds_of None = Whole
bounds_of (Some (a, b)) = Within a b

-- The media type of a partial update, SabreDAV's.
abbrev pub partial_update : List ℕ
partial_update = codes "application/x-sabredav-partialupdate"

-- Whether there is a text, and it is this one.
abbrev pub is_text : Option (List ℕ) → List ℕ → Bool
is_text None wanted = false
is_text (Some text) wanted = bytes_eq text wanted

-- whether the only value of Content-Type is the media type of a partial update
abbrev pub is_partial_update : List FieldValue → Bool
is_partial_update values = is_text (only_text values) partial_update

-- The checksum that comes with a body: the value of OC-Checksum, where it is visible text.
abbrev pub checksum_in : Headers → Option (List ℕ)
checksum_in headers = text_in (get headers (codes "oc-checksum"))

-- What the headers of a PUT or PATCH to p say; a header that doesn't decode counts as absent, except for Content-Range.
pub record ArePutHeaders (headers : Headers) (p : PathText) (h : PutHeaders) : Type 0 where
  pub conditions : AreConditions headers p.prefix (names p) h.conditions
  pub announced : IsAnnounced headers h.announced
  pub range : TellsBounds (get_all headers (codes "content-range")) h.range
  pub is_partial : h.is_partial ≡ is_partial_update (get_all headers (codes "content-type"))
  pub update : Decodes IsUpdateRange (get_all headers (codes "x-update-range")) h.update
  pub checksum : h.checksum ≡ checksum_in headers

-- ---- where the bytes go

-- The error for a range that can't be satisfied: 416 (RFC 9110, section 15.5.17).
abbrev pub unsatisfiable : DavError
unsatisfiable = dav.StatusClose 416

-- whether there are n bytes from the first of two places to the second, both included
abbrev pub spans : ℕ → ℕ → ℕ → Bool
spans first last n = not (nat_lt last first) && (last - first + 1 == n)

-- The place that is n bytes before the end of the file that was found: 416 where it is shorter; 0 where nothing was found.
abbrev pub from_end : ℕ → Option DavMetaData → Result ℕ DavError
from_end n None = Ok 0
from_end n (Some m) = if nat_lt m.len n then Err unsatisfiable else Ok (m.len - n)

-- Where a partial update of n bytes begins: at the first byte of its range, at so many bytes before the end, or at 0 where it
-- appends. 416 where the range hasn't n bytes (RFC 9110, section 15.5.17).
abbrev pub update_from : XUpdateRange → ℕ → Option DavMetaData → Result ℕ DavError
update_from (FromTo first last) n found = if spans first last n then Ok first else Err unsatisfiable
update_from (AllFrom first) n found = Ok first
update_from (Last k) n found = from_end k found
update_from Append n found = Ok 0

-- Whether a partial update appends to the file.
abbrev pub is_append : XUpdateRange → Bool
is_append Append = true
is_append _ = false

-- What a partial update of n bytes writes that begins at this place; or the error where it has no place.
abbrev pub update_at : XUpdateRange → ℕ → Result ℕ DavError → Result Writing DavError
update_at range n (Ok first) = Ok (record { from = Some first; appends = is_append range; announced = Some n })
update_at range n (Err e) = Err e

-- what a partial update writes: 411 where no length is announced, 400 without X-Update-Range
abbrev pub updates : Option ℕ → Option XUpdateRange → Option DavMetaData → Result Writing DavError
updates None range found = Err (dav.StatusClose 411)
updates (Some n) None found = Err (dav.StatusClose 400)
updates (Some n) (Some range) found = update_at range n (update_from range n found)

-- What a method writes, before Content-Range is looked at: PATCH a partial update, with 415 for any other body; PUT the whole
-- file (RFC 5789, section 2.2).
abbrev pub written_by : DavMethod → PutHeaders → Option DavMetaData → Result Writing DavError
written_by Patch h found = if h.is_partial then updates h.announced h.update found else Err (dav.StatusClose 415)
written_by _ h found = Ok (record { from = None; appends = false; announced = h.announced })

-- What is written where n bytes go to a place: n has to be the announced length, where one is; else n is announced, and has to be below 2^64.
abbrev pub placed : ℕ → ℕ → Writing → Option ℕ → Result Writing DavError
placed first n w None = if nat_lt max_u64 n then Err unsatisfiable else Ok (record w { from = Some first; announced = Some n })
placed first n w (Some k) = if n == k then Ok (record w { from = Some first }) else Err unsatisfiable

-- What is written with this Content-Range: 400 where it is unread, 416 where its last byte is before the first
-- (RFC 9110, sections 14.4 and 14.5).
abbrev pub bounded : Bounds → Writing → Result Writing DavError
bounded Unread w = Err (dav.StatusClose 400)
bounded Whole w = Ok w
bounded (Within first last) w = if nat_lt last first then Err unsatisfiable else placed first (last - first + 1) w w.announced

-- What is written with this Content-Range, unless there was an error before.
abbrev pub bounded_by : Bounds → Result Writing DavError → Result Writing DavError
bounded_by range (Ok w) = bounded range w
bounded_by range (Err e) = Err e

-- Where the bytes of a PUT or PATCH go, and how many are announced (RFC 9110, section 14.5; RFC 5789, section 2).
abbrev pub writing_of : DavMethod → PutHeaders → Option DavMetaData → Result Writing DavError
writing_of m h found = bounded_by h.range (written_by m h found)

-- ---- the file

-- How the file is opened: it is emptied, unless bytes go to a place in it. It is created where nothing is there, unless
-- If-Match is `*`; and with If-None-Match `*` nothing may be there (RFC 9110, sections 9.3.4 and 13.1).
abbrev pub put_opening : PutHeaders → Writing → Opening
put_opening h w = record no_opening {
  write = true;
  append = w.appends;
  truncate = is_none w.from;
  create = not (is_star h.conditions.if_match);
  create_new = is_star h.conditions.if_none_match;
  size = h.announced;
  checksum = h.checksum;
}

-- The status where the file is missing or already there: 412 where a condition asks for that, else 409, since no folder is
-- above the path (RFC 4918, section 9.7.1; RFC 9110, section 13.1).
abbrev pub missing_status : Opening → ℕ
missing_status how = if not how.create || how.create_new then 412 else 409

-- The error of a PUT or PATCH whose file isn't opened: that of `missing_status` where it is missing or already there; any other refusal as it is.
abbrev pub open_error : Opening → FsError → DavError
open_error how fs.NotFound = dav.StatusClose (missing_status how)
open_error how fs.Exists = dav.StatusClose (missing_status how)
open_error how e = dav.FsError e

-- Seeks the place, where there is one; 416 where the store refuses.
abbrev pub sought : Option ℕ → Handle → MethodPlan Handle
sought None file = gives file
sought (Some place) file = do
  moved ← ask_or (λ _. unsatisfiable) (Seek file (Start place))
  gives moved.1

-- Whether a body has the length that is announced for it, where one is (RFC 9110, section 8.6).
abbrev pub is_announced : Option ℕ → List ℕ → Bool
is_announced None bytes = true
is_announced (Some n) bytes = n == length bytes

-- writes the bytes, where there are any
abbrev pub written : Handle → List ℕ → ℕ → MethodPlan Handle
written file bytes now = if length bytes == 0 then gives file else ask_for (Write file bytes now)

-- The reply to a file that was stored: 204 where something was found before, else 201, with the validators of the file
-- (RFC 9110, sections 9.3.4 and 14.3).
abbrev pub stored : Bool → Option DavMetaData → Reply
stored found file = record {
  status = if found then 204 else 201;
  headers = (codes "accept-ranges", codes "bytes") ∷ ((if found then [] else content_length 0 ∷ []) ++ validators file);
  body = reply.Nothing;
}

-- Stores the bytes: opens the file, seeks the place, writes and flushes the bytes, and asks the file for its tag and time.
abbrev pub store : Opening → Option ℕ → Path → List ℕ → ℕ → Bool → MethodPlan Reply
store how place p bytes now found = do
  file ← ask_or (open_error how) (Open p how now)
  file ← sought place file
  file ← written file bytes now
  _ ← ask_for (Flush file)
  after ← answer_of (FileMetadata file)
  gives (stored found (result_ok after))

-- ---- the method

-- The checks before the file is opened: where the bytes go; 412 where a condition fails; 423 where a lock conflicts, on the
-- path or, where nothing was found there, on the folder above it; 400 where the body isn't of the announced length. Gives where
-- the bytes go, and whether something was found at the path (RFC 4918, sections 7.4 and 7.5).
abbrev pub put_checks : DavMethod → PutHeaders → Path → Caller → List ℕ → Result DavMetaData FsError → MethodPlan (Writing × Bool)
put_checks m h p who bytes found = do
  w ← Done (writing_of m h (result_ok found))
  tokens ← guarded dav.StatusClose m h.conditions (result_ok found)
  _ ← require_member false (not (is_ok found)) (requester who tokens) p (dav.StatusClose 423)
  _ ← require (is_announced w.announced bytes) (dav.StatusClose 400)
  gives (w, is_ok found)

-- Asks the store what is at the path, and makes the checks.
abbrev pub put_allowed : DavMethod → PutHeaders → Path → Caller → List ℕ → MethodPlan (Writing × Bool)
put_allowed m h p who bytes = do
  found ← answer_of (Metadata p)
  put_checks m h p who bytes found

-- The plan of a PUT or PATCH with these bytes as its body, and with what its headers say (RFC 9110, section 9.3.4; RFC 5789, section 2).
abbrev pub put : DavMethod → PutHeaders → Path → Caller → List ℕ → MethodPlan Reply
put m h p who bytes = do
  allowed ← put_allowed m h p who bytes
  store (put_opening h allowed.0) allowed.0.from p bytes who.moment allowed.1

-- The bytes of a body, if it is made of bytes: an element tree and a malformed body aren't, and no body is no bytes.
abbrev pub bytes_of_body : Body → Option (List ℕ)
bytes_of_body body.None = Some []
bytes_of_body (body.Bytes bytes) = Some bytes
bytes_of_body (body.Tree tree) = None
bytes_of_body body.Malformed = None

-- PUT and PATCH with this body: 415 for one that isn't bytes (RFC 9110, section 15.5.16)
abbrev pub put_body : DavMethod → PutHeaders → Path → Caller → Option (List ℕ) → MethodPlan Reply
put_body m h p who None = fails (dav.Status 415)
put_body m h p who (Some bytes) = put m h p who bytes

-- The plan of a PUT or PATCH with these headers and this body, to a path, by this client (RFC 9110, section 9.3.4; RFC 5789, section 2).
pub data IsPut (m : DavMethod) (headers : Headers) (p : PathText) (body : Body) (who : Caller) : MethodPlan Reply → Type 0 where
  is_put : (h : PutHeaders) → ArePutHeaders headers p h → IsPut m headers p body who (put_body m h (names p) who (bytes_of_body body))
