-- Where a PUT or PATCH begins to write that names a place in its file (RFC 9110, section 14.4; SabreDAV's partial update by PATCH).
use Rattle.std.specs.Prelude.{◌≡◌, ◌⊎◌, ◌<◌, ◌≤◌, ℕ, List, Option, Some, IfSome, IsSomeAnd, codes}
use Rattle.http_header.specs.FieldValue.{FieldValue}
use Rattle.http_header.specs.HeaderMap.{get_all}
use Rattle.dav_headers.specs.ContentRange.{IsContentRange}
use Rattle.dav_headers.specs.UpdateRange.{IsUpdateRange}
use Rattle.dav_headers.specs.Value.{Decodes}
use Rattle.dav_headers.specs.declared.range.ContentRange.{ContentRange}
use Rattle.dav_headers.specs.declared.range.XUpdateRange.TheVariants.{AllFrom, FromTo}
use Rattle.dav_engine.specs.Headers.{Headers}
use Rattle.dav_server.specs.Head.{Request}
use Rattle.dav_server.specs.Headers.{headers_of}

-- A range names bytes that a file can have: the last one isn't before the first, and, where the length of the file is named, not past it
-- (RFC 9110, section 14.4).
abbrev pub NamesBytes : ContentRange → Type 0
NamesBytes r = IsSomeAnd r.bounds (λ b. (b.0 ≤ b.1) × IfSome r.length (λ n. b.1 < n))

-- these values of Content-Range are a range that names bytes (RFC 9110, section 14.5)
abbrev pub IsPlaced : List FieldValue → ContentRange → Type 0
IsPlaced values r = IsContentRange values r × NamesBytes r

-- these values of Content-Range name bytes from this one on (RFC 9110, section 14.4)
abbrev pub IsRangedFrom : List FieldValue → ℕ → Type 0
IsRangedFrom values first = (last : ℕ) × (length : Option ℕ) × IsContentRange values (record { bounds = Some (first, last); length = length })

-- these values of X-Update-Range name bytes from this one on
abbrev pub IsUpdatedFrom : List FieldValue → ℕ → Type 0
IsUpdatedFrom values first = ((last : ℕ) × IsUpdateRange values (FromTo first last)) ⊎ IsUpdateRange values (AllFrom first)

-- a request names this byte of its file as the first one that it writes
abbrev pub NamesFirst : Headers → ℕ → Type 0
NamesFirst headers first = IsRangedFrom (get_all headers (codes "content-range")) first ⊎ IsUpdatedFrom (get_all headers (codes "x-update-range")) first

-- the first bytes that Content-Range and X-Update-Range name, where they name some
abbrev pub AreFirsts : Headers → Option ℕ × Option ℕ → Type 0
AreFirsts headers firsts =
    Decodes IsRangedFrom (get_all headers (codes "content-range")) firsts.0 × Decodes IsUpdatedFrom (get_all headers (codes "x-update-range")) firsts.1

-- A PUT or PATCH begins to write past so many bytes, so that the file would have more of them, whatever it has now.
abbrev pub BeginsPast : ℕ → Request → Type 0
BeginsPast most r =
    ((r.method ≡ codes "PUT") ⊎ (r.method ≡ codes "PATCH")) × ((first : ℕ) × NamesFirst (headers_of r.fields) first × (most < first))
