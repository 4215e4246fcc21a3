-- The headers of a request, as methods read them (RFC 9110, section 5).
use Rattle.std.specs.Prelude.{ℕ, List, if◌then◌else◌, Option, Some, None}
use Rattle.http_header.specs.HeaderMap.{Entries}
use Rattle.http_header.specs.FieldValue.{FieldValue, is_visible_text}
-- a header that doesn't decode counts as absent
pub use Rattle.dav_headers.specs.Value.{Decodes}

-- The header fields of a request, by their names in lower case (RFC 9110, sections 5.1 to 5.3).
abbrev pub Headers : Type 0
Headers = Entries FieldValue

-- The bytes of a value, if there is one and it is visible text (RFC 9110, section 5.5).
abbrev pub text_in : Option FieldValue → Option (List ℕ)
text_in None = None
text_in (Some v) = if is_visible_text v.bytes then Some v.bytes else None
