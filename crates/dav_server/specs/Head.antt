-- The head of a request: which bytes are one, and what it says (RFC 9112, sections 2 to 5; RFC 9110, section 5).
use Rattle.std.specs.Prelude.{◌≡◌, ℕ, ◌≤◌, Bool, List, [], length, map, All, bytes_eq}
use Rattle.std.specs.List.{filter}
use Rattle.std.specs.Char.{to_ascii_lowercase}
use Rattle.httparse.specs.Grammar.{RequestHead, ReadsRequest}
use Rattle.httparse.specs.Spans.{name_and_value}
use Rattle.http_header.specs.FieldName.{IsFieldName}
use Rattle.http_header.specs.FieldValue.{IsFieldValue}

-- What a head says: its method, its target, and its fields, each a name and the value without the optional whitespace (OWS)
-- around it (RFC 9112, sections 2 to 5).
pub record Request : Type 0 where
  pub method : List ℕ
  pub target : List ℕ
  pub fields : List (List ℕ × List ℕ)

-- what a head of HTTP's grammar says, without the bytes that only delimit its parts
abbrev pub request_of_head : RequestHead → Request
request_of_head h = record { method = h.method; target = h.target; fields = map name_and_value h.fields }

-- The bytes are a head that says this: at most 65,536 bytes, at most 64 fields, and nothing after it (RFC 9112, sections 2 to 5).
abbrev pub IsHead : List ℕ → Request → Type 0
IsHead bytes r =
    (length bytes ≤ 65536)
    × (h : RequestHead) × ReadsRequest bytes h [] × (length h.fields ≤ 64) × (r ≡ request_of_head h)

-- whether the names are the same, ASCII case ignored (RFC 9110, section 5.1)
abbrev pub is_same_name : List ℕ → List ℕ → Bool
is_same_name a b = bytes_eq (map to_ascii_lowercase a) (map to_ascii_lowercase b)

-- the values of the fields with this name, in order (RFC 9110, sections 5.1 and 5.3)
abbrev pub values_of : List ℕ → List (List ℕ × List ℕ) → List (List ℕ)
values_of name fields = map (λ field. field.1) (filter (λ field. is_same_name field.0 name) fields)

-- each field has a name and a value of HTTP's grammar (RFC 9110, sections 5.1 and 5.5)
abbrev pub AreFields : List (List ℕ × List ℕ) → Type 0
AreFields fields = All (λ field. IsFieldName field.0 × IsFieldValue field.1) fields

-- bytes are read as a request's head in one way at most
abbrev pub OneHead : Type 0
OneHead = (bytes : List ℕ) (a b : Request) → IsHead bytes a → IsHead bytes b → a ≡ b
