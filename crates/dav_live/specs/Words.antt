-- What a response says in words that refuses, where it has no body of its own (RFC 9110, section 15.5; RFC 4918, section 11).
use Rattle.std.specs.Prelude.{◌≡◌, ◌≢◌, ◌⊎◌, ◌++◌, ◌||◌, ℕ, Bool, true, List, [], bytes_eq, codes}
use Rattle.std.specs.List.{list_any}
use Rattle.http_header.specs.FieldValue.{FieldValue}
use Rattle.http_server.specs.declared.response.Response.{Response}
use Rattle.http_server.specs.Response.{fields_of}
use Rattle.dav_wire.specs.Explained.{explanation, text_fields}

-- whether the name of a field is of one that tells of the content (RFC 9110, sections 8.3 and 8.6)
abbrev pub is_of_content : List ℕ → Bool
is_of_content name = bytes_eq name (codes "content-length") || bytes_eq name (codes "content-type")

-- whether one of these fields tells of the content
abbrev pub has_content_field : List (List ℕ × FieldValue) → Bool
has_content_field fields = list_any (λ f. is_of_content f.0) fields

-- a response has content of its own, or tells of that a GET would have, as one to a HEAD may
abbrev pub HasOwnContent : Response → Type 0
HasOwnContent own = (own.body.items ≢ []) ⊎ (has_content_field own.headers.items ≡ true)

-- The response as it is sent, but for its date: as it is where it has content of its own; else with the words of its status, if
-- there are any.
pub data IsExplained (own said : Response) : Type 0 where
  as_is : HasOwnContent own → said ≡ own → IsExplained own said
  in_words : ¬ HasOwnContent own → fields_of said ≡ fields_of own ++ text_fields (explanation own.status) → said.status ≡ own.status
      → said.body.items ≡ explanation own.status → IsExplained own said
