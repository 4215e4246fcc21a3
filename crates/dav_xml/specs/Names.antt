-- Names (XML 1.0, section 2.3; Namespaces in XML 1.0, sections 3 and 4).
use Rattle.std.specs.Prelude.{ℕ, Bool, false, ◌&&◌, ◌||◌, ◌==◌, nat_le, if◌then◌else◌, List, [], ◌∷◌, Result, Ok, Err}
use Rattle.std.specs.List.{list_all}
use Rattle.std.specs.Str.{chars}
use Rattle.dav_xml.specs.declared.error.Fault.{Fault}
use Rattle.dav_xml.specs.declared.error.Fault.TheVariants.{Malformed}
use Rattle.dav_xml.specs.Read.{◌>>=◌}
use Rattle.dav_xml.specs.References.{utf8}

-- a character from `first` to `last`
abbrev pub is_within : ℕ → ℕ → ℕ → Bool
is_within first last c = nat_le first c && nat_le c last

-- the ASCII characters of [4] NameStartChar, without the colon
abbrev pub is_letter : ℕ → Bool
is_letter c = (is_within 65 90 c || c == 95) || is_within 97 122 c

-- the characters of [4] NameStartChar from U+C0 to U+2FF
abbrev pub is_latin : ℕ → Bool
is_latin c = (is_within 0xC0 0xD6 c || is_within 0xD8 0xF6 c) || is_within 0xF8 0x2FF c

-- the characters of [4] NameStartChar from U+370 to U+200D
abbrev pub is_early : ℕ → Bool
is_early c = (is_within 0x370 0x37D c || is_within 0x37F 0x1FFF c) || is_within 0x200C 0x200D c

-- the characters of [4] NameStartChar from U+2070 to U+D7FF
abbrev pub is_middle : ℕ → Bool
is_middle c = (is_within 0x2070 0x218F c || is_within 0x2C00 0x2FEF c) || is_within 0x3001 0xD7FF c

-- the characters of [4] NameStartChar from U+F900 on
abbrev pub is_late : ℕ → Bool
is_late c = (is_within 0xF900 0xFDCF c || is_within 0xFDF0 0xFFFD c) || is_within 0x1_0000 0xE_FFFF c

-- a character that may begin a name without a colon (XML 1.0, [4] NameStartChar)
abbrev pub may_begin : ℕ → Bool
may_begin c = (((is_letter c || is_latin c) || is_early c) || is_middle c) || is_late c

-- the characters up to U+B7 that may be in a name but not begin it (XML 1.0, [4a] NameChar)
abbrev pub is_later : ℕ → Bool
is_later c = ((c == 45 || c == 46) || is_within 48 57 c) || c == 0xB7

-- a character that may be in a name without a colon (XML 1.0, [4a] NameChar)
abbrev pub may_continue : ℕ → Bool
may_continue c = ((may_begin c || is_later c) || is_within 0x300 0x36F c) || is_within 0x203F 0x2040 c

-- the characters are a name without a colon (Namespaces in XML 1.0, [4] NCName)
abbrev pub are_plain : List ℕ → Bool
are_plain [] = false
are_plain (c ∷ cs) = may_begin c && list_all may_continue cs

-- the text is a name without a colon (Namespaces in XML 1.0, [4] NCName)
abbrev pub is_plain : List ℕ → Bool
is_plain name = are_plain (chars name)

-- the bytes, where they are UTF-8 and a name without a colon; else `Malformed`
abbrev pub plain_name : List ℕ → Result (List ℕ) Fault
plain_name bytes = utf8 bytes >>= λ name. if is_plain name then Ok name else Err Malformed
