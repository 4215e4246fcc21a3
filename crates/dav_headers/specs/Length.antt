-- The header Content-Length (RFC 9110, section 8.6).
use Rattle.std.specs.Prelude.{ℕ, ◌<◌, List, length, All}
use Rattle.http_header.specs.FieldValue.{FieldValue}
use Rattle.dav_headers.specs.Value.{IsNumber}

-- there are values, and all are this number (RFC 9110, section 8.6)
abbrev pub IsContentLength : List FieldValue → ℕ → Type 0
IsContentLength values n = (0 < length values) × All (λ v. IsNumber v.bytes n) values
