-- The time of the file that a PUT brings, as its client tells it beside the file: X-OC-Mtime, which the clients of ownCloud and Nextcloud and
-- rclone send. The server sets it by a request of its own, a PROPPATCH of `getlastmodified` (RFC 4918, sections 9.2 and 15.7).
use Rattle.std.specs.Prelude.{◌≡◌, ◌⊎◌, ◌≤◌, ℕ, List, ◌++◌, [], codes, Option, Some, None}
use Rattle.std.specs.List.{slice_get}
use Rattle.http_header.specs.FieldValue.{FieldValue}
use Rattle.http_header.specs.HeaderMap.{get_all}
use Rattle.dav_core.specs.World.{last_moment}
use Rattle.dav_engine.specs.Date.{date_text_of}
use Rattle.dav_headers.specs.Length.{IsContentLength}
use Rattle.dav_server.specs.Head.{Request, values_of}
use Rattle.dav_server.specs.Headers.{headers_of}

-- values tell a time, in seconds since 1970: a number of decimal digits, as that of a Content-Length, of a moment that HTTP can write as a
-- date
abbrev pub AreTime : List FieldValue → ℕ → Type 0
AreTime values time = IsContentLength values time × (time ≤ last_moment)

-- a PUT tells when its file was changed last
abbrev pub TellsTime : Request → ℕ → Type 0
TellsTime r time = (r.method ≡ codes "PUT") × AreTime (get_all (headers_of r.fields) (codes "x-oc-mtime")) time

-- A PUT that was answered with this status brought its file, whose time it tells (RFC 9110, section 9.3.4).
abbrev pub BringsTime : Request → ℕ → ℕ → Type 0
BringsTime r status time = ((status ≡ 201) ⊎ (status ≡ 204)) × TellsTime r time

-- The lines of the If of such a request: the PUT's, so that it submits the same tokens, and one list more, which always holds, since the tags
-- that the others name may be those of the file before (RFC 4918, sections 10.4.2 and 10.4.8).
abbrev pub if_line : Option (List ℕ) → List ℕ
if_line None = []
if_line (Some value) = codes "If: " ++ value ++ codes " (Not <DAV:no-lock>)\r\n"

-- the head of the request that sets the time of the file of a PUT
abbrev pub time_head : Request → List ℕ
time_head r = codes "PROPPATCH " ++ r.target ++ codes " HTTP/1.1\r\n" ++ if_line (slice_get (values_of (codes "if") r.fields) 0) ++ codes "\r\n"

-- its body (RFC 4918, sections 14.19 and 14.26)
abbrev pub time_body : ℕ → List ℕ
time_body time =
    codes "<propertyupdate xmlns=\"DAV:\"><set><prop><getlastmodified>" ++ date_text_of time ++ codes "</getlastmodified></prop></set></propertyupdate>"
