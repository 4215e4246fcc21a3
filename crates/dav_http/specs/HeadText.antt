-- The text of a head (RFC 9112, sections 3 and 5).
use Rattle.std.specs.Prelude.{ℕ, List, ◌∷◌, ◌++◌, codes, flat_map}
use Rattle.httparse.specs.Ascii.{crlf_bytes}

-- a request line, with the end of its line (RFC 9112, section 3)
abbrev pub request_line : List ℕ → List ℕ → List ℕ
request_line method target = method ++ 32 ∷ target ++ codes " HTTP/1.1" ++ crlf_bytes

-- a field line, with the end of its line (RFC 9112, section 5)
abbrev pub field_line : List ℕ × List ℕ → List ℕ
field_line field = field.0 ++ 58 ∷ field.1 ++ crlf_bytes

-- a head with these fields (RFC 9112, section 2.1)
abbrev pub head_text : List ℕ → List ℕ → List (List ℕ × List ℕ) → List ℕ
head_text method target fields = request_line method target ++ flat_map field_line fields ++ crlf_bytes
