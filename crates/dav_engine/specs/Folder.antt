-- Paths of folders and of what is in them (RFC 4918, section 5.2).
use Rattle.std.specs.Prelude.{ℕ, ◌-◌, ◌^◌, ◌++◌, ◌&&◌, Bool, false, not, List, [], ◌∷◌, length, codes, if◌then◌else◌, Option, Some, None}
use Rattle.http_header.specs.FieldValue.{FieldValue, plain_value}
use Rattle.http_header.specs.HeaderMap.{Entries, insert}
use Rattle.dav_core.specs.declared.fs.DavMetaData.{DavMetaData}
use Rattle.dav_core.specs.Path.{PathText, with_bytes, with_slash, names, full_bytes, is_collection}
use Rattle.dav_core.specs.UrlText.{path_text}
use Rattle.dav_engine.specs.Reply.{Header, content_location}

-- The path with a slash at its end where `wanted` is true; else the path as it is (RFC 4918, section 5.2).
abbrev pub closed : Bool → PathText → PathText
closed wanted p = if wanted then with_bytes p (with_slash p.bytes) else p

-- The path of a member of a folder, with a slash at its end where the member is a folder (RFC 4918, section 5.2).
abbrev pub child_of : PathText → List ℕ → Bool → PathText
child_of p name dir = closed dir (with_bytes p (with_slash p.bytes ++ name))

-- How many levels a walk may go below a path: as many names as the path may still get. A path has fewer than 2^64 bytes, and so fewer names.
unfoldable pub room_at : PathText → ℕ
room_at p = 2 ^ 64 - length (names p)

-- Whether something was found, and it is a folder.
abbrev pub is_folder_found : Option DavMetaData → Bool
is_folder_found None = false
is_folder_found (Some m) = m.dir

-- The path of what was found: that of a folder gets a slash at its end, if it has none (RFC 4918, section 5.2).
abbrev pub path_found : Option DavMetaData → PathText → PathText
path_found found p = closed (is_folder_found found) p

-- Content-Location with the path that ends in a slash, where a folder was found whose path lacked it; else nothing
-- (RFC 4918, section 5.2; RFC 9110, section 8.7).
abbrev pub location_found : Option DavMetaData → PathText → List Header
location_found found p = if is_folder_found found && not (is_collection p.bytes) then content_location (path_found found p) ∷ [] else []

-- The headers after Content-Location was set, where a folder was found whose path lacked its slash.
abbrev pub with_location : Entries FieldValue → Option DavMetaData → PathText → Entries FieldValue
with_location headers found p =
    if is_folder_found found && not (is_collection p.bytes) then insert headers (codes "content-location") (plain_value (path_text (full_bytes (path_found found p)))) else headers
