-- Bytes and runs of bytes of XML 1.0. The bytes are UTF-8, and each byte from 128 on is part of a longer character.
use Rattle.std.specs.Prelude.{ℕ, Bool, ◌||◌, ◌==◌, nat_le, if◌then◌else◌, List, [], ◌∷◌, ◌++◌, take, drop, Option, Some, None, option_map, Result, Ok, Err}
use Rattle.std.specs.List.{prefix_len}
use Rattle.std.specs.Char.{is_ascii_alphabetic, is_ascii_digit}
use Rattle.dav_xml.specs.declared.error.Fault.{Fault}
use Rattle.dav_xml.specs.declared.error.Fault.TheVariants.{Malformed}

-- a byte of white space: space, tab, line feed or carriage return (XML 1.0, [3] S)
abbrev pub is_space : ℕ → Bool
is_space b = ((b == 32 || b == 9) || b == 10) || b == 13

-- a byte that may begin a name; all bytes of characters past ASCII count (XML 1.0, [4] NameStartChar)
abbrev pub is_name_start : ℕ → Bool
is_name_start b = ((is_ascii_alphabetic b || b == 95) || b == 58) || nat_le 128 b

-- a byte that may be in a name; all bytes of characters past ASCII count (XML 1.0, [4a] NameChar)
abbrev pub is_name_byte : ℕ → Bool
is_name_byte b = ((is_name_start b || is_ascii_digit b) || b == 45) || b == 46

-- the longest front of the bytes of which each passes, and the rest
abbrev pub run : (ℕ → Bool) → List ℕ → List ℕ × List ℕ
run p bytes = (take (prefix_len p bytes) bytes, drop (prefix_len p bytes) bytes)

-- the bytes without the white space at their beginning
abbrev pub after_space : List ℕ → List ℕ
after_space bytes = (run is_space bytes).1

-- what was found, with these bytes before its first part
abbrev pub behind : List ℕ → Option (List ℕ × List ℕ) → Option (List ℕ × List ℕ)
behind front found = option_map (λ p. (front ++ p.0, p.1)) found

-- what is before the first byte b, and what follows it; none where there is none
abbrev pub split_byte : ℕ → List ℕ → Option (List ℕ × List ℕ)
split_byte b [] = None
split_byte b (x ∷ xs) = if x == b then Some ([], xs) else behind (x ∷ []) (split_byte b xs)

-- what follows this text, where the bytes begin with it; else none
abbrev pub after_text : List ℕ → List ℕ → Option (List ℕ)
after_text [] bytes = Some bytes
after_text (w ∷ ws) [] = None
after_text (w ∷ ws) (b ∷ bs) = if b == w then after_text ws bs else None

-- with no bytes before it, what follows a text that was found here; where none was, what was found later
abbrev pub found_or : Option (List ℕ) → Option (List ℕ × List ℕ) → Option (List ℕ × List ℕ)
found_or None later = later
found_or (Some rest) later = Some ([], rest)

-- what is before the first place where this text is, and what follows it; none where it is nowhere
abbrev pub split_text : List ℕ → List ℕ → Option (List ℕ × List ℕ)
split_text wanted [] = None
split_text wanted (x ∷ xs) = found_or (after_text wanted (x ∷ xs)) (behind (x ∷ []) (split_text wanted xs))

-- a name that was cut off, and what follows it; `Malformed` where it is empty, or begins with a byte that can't begin a name
abbrev pub name_after : List ℕ × List ℕ → Result (List ℕ × List ℕ) Fault
name_after ([], rest) = Err Malformed
name_after (b ∷ bs, rest) = if is_name_start b then Ok (b ∷ bs, rest) else Err Malformed

-- The name that the bytes begin with, and what follows it; `Malformed` where they begin with none. All characters past ASCII count as
-- those of names (XML 1.0, [5] Name).
unfoldable pub name_at : List ℕ → Result (List ℕ × List ℕ) Fault
name_at bytes = name_after (run is_name_byte bytes)
