-- What the parts of a response about a file are.
use Rattle.std.specs.Prelude.{⊤, ℕ, ◌≤◌, ◌<◌, List, Option, Some, None}
use Rattle.http_header.specs.FieldValue.{IsFieldValue}

-- a text that may be the value of a field, if there is one (RFC 9110, section 5.5)
abbrev pub IsRangeText : Option (List ℕ) → Type 0
IsRangeText None = ⊤
IsRangeText (Some text) = IsFieldValue text

-- a status of three digits, and a Content-Range that may be sent, if there is one (RFC 9110, sections 14.4 and 15)
abbrev pub IsValid : ℕ → Option (List ℕ) → Type 0
IsValid status range = (100 ≤ status) × (status < 1000) × IsRangeText range
