-- The header Content-Language (RFC 9110, section 8.5).
use Rattle.std.specs.Prelude.{ℕ, ◌<◌, List, ◌≡◌, ◌⊎◌, All, IsTrue, length}
use Rattle.std.specs.Char.{is_ascii_alphanumeric}
use Rattle.std.specs.List.{flat_map}
use Rattle.http_header.specs.FieldValue.{FieldValue}
use Rattle.dav_headers.specs.Elements.{elements_of}
use Rattle.dav_headers.specs.Value.{IsText}

-- a language tag, of which only the bytes are checked: one or more letters, digits and hyphens (RFC 5646, section 2.1)
abbrev pub IsLanguage : List ℕ → Type 0
IsLanguage item = (0 < length item) × All (λ b. IsTrue (is_ascii_alphanumeric b) ⊎ (b ≡ 45)) item

-- there are values, all text, and these are their list elements in order, each a language tag (RFC 9110, section 8.5)
abbrev pub AreLanguages : List FieldValue → List (List ℕ) → Type 0
AreLanguages values items =
    (0 < length values) × All (λ v. IsText v.bytes) values
    × (items ≡ flat_map (λ v. elements_of v.bytes) values) × All IsLanguage items
