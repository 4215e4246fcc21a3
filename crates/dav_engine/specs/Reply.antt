-- Replies as contracts see them (RFC 9110, sections 8 and 15).
use Rattle.std.specs.Prelude.{ℕ, ◌++◌, Bool, List, [], ◌∷◌, map, codes, if◌then◌else◌, Option, Some, None, Result, Ok, Err}
use Rattle.std.specs.Fmt.{decimal}
use Rattle.http_header.specs.HeaderMap.{Entries, pairs, insert}
use Rattle.http_header.specs.FieldValue.{FieldValue, plain_value}
use Rattle.dav_core.specs.declared.errors.DavError.{DavError}
use Rattle.dav_core.specs.declared.fs.DavMetaData.{DavMetaData}
use Rattle.dav_core.specs.Metadata.{tag_of}
use Rattle.dav_core.specs.Path.{PathText, full_bytes}
use Rattle.dav_core.specs.Status.{dav_status, must_close}
use Rattle.dav_core.specs.UrlText.{path_text}
use Rattle.dav_engine.specs.declared.reply.ReplyBody.{ReplyBody}
use Rattle.dav_engine.specs.declared.reply.ReplyBody.TheVariants.{Nothing}
use Rattle.dav_engine.specs.Date.{date_text_of}

-- a header: its name and its value
abbrev pub Header : Type 0
Header = List ℕ × List ℕ

-- A reply: its status, its headers in order, and its body (RFC 9110, section 15).
pub record Reply : Type 0 where
  pub status : ℕ
  pub headers : List Header
  pub body : ReplyBody

-- names with their values, as headers
abbrev pub header_pairs : List (List ℕ × FieldValue) → List Header
header_pairs named = map (λ h. (h.0, h.1.bytes)) named

-- the headers of a map in order, each with its value
abbrev pub headers_in : Entries FieldValue → List Header
headers_in headers = header_pairs (pairs headers)

-- Content-Length: how many bytes the body has (RFC 9110, section 8.6).
abbrev pub content_length : ℕ → Header
content_length n = (codes "content-length", decimal n)

-- Content-Location: the address of a folder, which is the text of its path in a URL, with its prefix (RFC 9110, section 8.7).
abbrev pub content_location : PathText → Header
content_location p = (codes "content-location", path_text (full_bytes p))

-- ETag: the entity tag of a file or folder whose last change took this number (RFC 9110, section 8.8.3)
abbrev pub etag : ℕ → Header
etag number = (codes "etag", tag_of number)

-- Last-Modified: when a file was last changed (RFC 9110, section 8.8.2)
abbrev pub last_modified : ℕ → Header
last_modified moment = (codes "last-modified", date_text_of moment)

-- ETag, where there is a change number (RFC 9110, section 8.8.3).
abbrev pub tag_headers : Option ℕ → List Header
tag_headers None = []
tag_headers (Some number) = etag number ∷ []

-- The validators of a file: ETag and Last-Modified; none where the store didn't report them (RFC 9110, sections 8.8.2 and 8.8.3).
abbrev pub validators : Option DavMetaData → List Header
validators None = []
validators (Some m) = tag_headers m.number ++ last_modified m.modified ∷ []

-- a map of headers after the tag was set, where there is a change number
abbrev pub with_tag : Entries FieldValue → Option ℕ → Entries FieldValue
with_tag headers None = headers
with_tag headers (Some number) = insert headers (codes "etag") (plain_value (tag_of number))

-- a map of headers after the validators of a file were set
abbrev pub with_validators : Entries FieldValue → DavMetaData → Entries FieldValue
with_validators headers m = insert (with_tag headers m.number) (codes "last-modified") (plain_value (date_text_of m.modified))

-- The header by which the connection closes after the reply, where it is to close (RFC 9110, section 7.6.1).
abbrev pub closing : Bool → List Header
closing close = if close then (codes "connection", codes "close") ∷ [] else []

-- The reply to an error: its status, without a body (RFC 9110, section 15).
abbrev pub error_reply : DavError → Reply
error_reply e = record { status = dav_status e; headers = closing (must_close e) ++ content_length 0 ∷ []; body = Nothing }

-- The reply to the outcome of a method: its own, or that to its error.
abbrev pub reply_to : Result Reply DavError → Reply
reply_to (Ok response) = response
reply_to (Err e) = error_reply e
