-- Requests that don't want to be told of what isn't there (RFC 7240, sections 2 and 4.2; RFC 8144, section 2).
use Rattle.std.specs.Prelude.{ℕ, ◌+◌, ◌==◌, ◌&&◌, ◌||◌, Bool, false, not, List, [], map, take, drop, codes, bytes_eq, if◌then◌else◌, Option, Some, None}
use Rattle.std.specs.Char.{to_ascii_lowercase}
use Rattle.std.specs.List.{find, flat_map, list_any, position_or_len}
use Rattle.http_header.specs.FieldValue.{FieldValue, is_visible_text}
use Rattle.dav_headers.specs.Elements.{elements_of, trimmed}
use Rattle.dav_headers.specs.Value.{only_text}

-- The preferences in a value of Prefer: its list elements (RFC 7240, section 2). None where it isn't text, or has a quoted string, in which
-- a comma ends nothing (RFC 9110, section 5.6.4): what isn't understood asks for nothing.
abbrev pub preferences_in : FieldValue → List (List ℕ)
preferences_in v = if is_visible_text v.bytes && not (list_any (λ b. b == 34) v.bytes) then elements_of v.bytes else []

-- What comes in a text before the first such byte; all of it where there is none.
abbrev pub before : ℕ → List ℕ → List ℕ
before sign text = take (position_or_len (λ b. b == sign) text) text

-- What comes in a text after the first such byte; nothing where there is none.
abbrev pub after : ℕ → List ℕ → List ℕ
after sign text = drop (position_or_len (λ b. b == sign) text + 1) text

-- The name of a preference: what comes before an equals sign, 61, and before its parameters, which begin with a semicolon, 59 (RFC 7240,
-- section 2).
abbrev pub name_in : List ℕ → List ℕ
name_in preference = trimmed (before 61 (before 59 preference))

-- The value of a preference: what comes after the equals sign, and before its parameters (RFC 7240, section 2).
abbrev pub value_in : List ℕ → List ℕ
value_in preference = trimmed (after 61 (before 59 preference))

-- Whether two texts are the same in letters of either case (RFC 7240, section 2).
abbrev pub is_same_word : List ℕ → List ℕ → Bool
is_same_word text other = bytes_eq (map to_ascii_lowercase text) (map to_ascii_lowercase other)

-- Whether it is the preference `return`, with whatever value (RFC 7240, section 4.2).
abbrev pub is_return : List ℕ → Bool
is_return preference = is_same_word (name_in preference) (codes "return")

-- Whether there is a preference, and its value is `minimal` (RFC 7240, section 4.2).
abbrev pub is_minimal : Option (List ℕ) → Bool
is_minimal None = false
is_minimal (Some preference) = is_same_word (value_in preference) (codes "minimal")

-- Whether the values of Prefer ask for a minimal reply, by `return=minimal`: of several preferences of that name the first counts (RFC
-- 7240, sections 2 and 4.2).
abbrev pub prefers_minimal : List FieldValue → Bool
prefers_minimal values = is_minimal (find is_return (flat_map preferences_in values))

-- Whether there is a text, and it is `t`.
abbrev pub is_t : Option (List ℕ) → Bool
is_t None = false
is_t (Some text) = is_same_word text (codes "t")

-- Whether the only value of Brief is `t`, by which the clients of Microsoft say the same (MS-WDVME, section 2.2).
abbrev pub is_brief : List FieldValue → Bool
is_brief values = is_t (only_text values)

-- Whether a request with these values of Prefer and of Brief isn't told of what isn't there (RFC 8144, section 2.1).
abbrev pub leaves_out_missing : List FieldValue → List FieldValue → Bool
leaves_out_missing prefer brief = prefers_minimal prefer || is_brief brief
