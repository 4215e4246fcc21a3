-- The text of a path in a URL (RFC 3986, sections 2.1 and 2.3).
use Rattle.std.specs.Prelude.{◌≡◌, ◌≢◌, ℕ, ◌==◌, ◌||◌, ◌⊎◌, Bool, if◌then◌else◌, List, [], ◌∷◌, bytes_eq}
use Rattle.std.specs.List.{flat_map, list_any}
use Rattle.std.specs.Char.{is_ascii_alphanumeric}
use Rattle.percent_encoding.specs.Percent.{percent_encode_byte}
use Rattle.dav_core.specs.Path.{star}

-- Whether a byte is written as it is in a URL: letters, digits and `-_.~` (RFC 3986, section 2.3), and the slash.
abbrev pub is_url_byte : ℕ → Bool
is_url_byte b = is_ascii_alphanumeric b || list_any (λ c. c == b) (45 ∷ 95 ∷ 46 ∷ 126 ∷ 47 ∷ [])

-- The text of bytes in a URL: letters, digits and `-_.~/` as they are, every other byte as `%` and two upper-case hexadecimal
-- digits (RFC 3986, sections 2.1 and 2.3).
unfoldable pub url_text : List ℕ → List ℕ
url_text bytes = flat_map (λ b. if is_url_byte b then b ∷ [] else percent_encode_byte b) bytes

-- The text of a path in a URL: that of the star path is `*`, that of any other path `url_text` (RFC 3986, section 2.1).
abbrev pub IsTextOf : List ℕ → List ℕ → Type 0
IsTextOf bytes written = ((bytes ≡ star) × (written ≡ star)) ⊎ ((bytes ≢ star) × (written ≡ url_text bytes))

-- The text of a path in a URL: `*` for the star path, else `url_text` (RFC 3986, section 2.1).
abbrev pub path_text : List ℕ → List ℕ
path_text bytes = if bytes_eq bytes star then star else url_text bytes
