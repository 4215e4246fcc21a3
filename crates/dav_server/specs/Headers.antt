-- The fields of a head as a map of headers.
use Rattle.std.specs.Prelude.{◌≡◌, ℕ, List, [], map}
use Rattle.http_header.specs.HeaderMap.{Entries, append_all, get_all}
use Rattle.http_header.specs.FieldValue.{FieldValue, plain_value}
use Rattle.http_header.specs.Token.{lowercase}
use Rattle.dav_server.specs.Head.{values_of}

-- a field, with its name in lower case
abbrev pub header_of : List ℕ × List ℕ → List ℕ × FieldValue
header_of field = (lowercase field.0, plain_value field.1)

-- the fields of a head as a map of headers, added in order, each value after the others of its name (RFC 9110, section 5.3)
abbrev pub headers_of : List (List ℕ × List ℕ) → Entries FieldValue
headers_of fields = append_all [] (map header_of fields)

-- in the map of a head's fields a name has the values of the fields with this name, in order (RFC 9110, section 5.3)
abbrev pub KeepsValues : Type 0
KeepsValues =
    (name : List ℕ) (fields : List (List ℕ × List ℕ))
    → get_all (headers_of fields) (lowercase name) ≡ map plain_value (values_of name fields)
