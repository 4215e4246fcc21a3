-- References of characters and of the five entities (XML 1.0, sections 4.1 and 4.6).
use Rattle.std.specs.Prelude.{ℕ, Bool, true, false, ◌&&◌, ◌||◌, ◌==◌, ◌+◌, ◌-◌, ◌*◌, nat_le, nat_lt, if◌then◌else◌, List, [], ◌∷◌, ◌++◌, length, bytes_eq, codes, encode_utf8, Option, Some, None, Result, Ok, Err}
use Rattle.std.specs.Str.Lossy.{utf8_valid_len}
use Rattle.dav_xml.specs.declared.error.Fault.{Fault}
use Rattle.dav_xml.specs.declared.error.Fault.TheVariants.{Malformed}
use Rattle.dav_xml.specs.Read.{◌>>=◌}
use Rattle.dav_xml.specs.Bytes.{is_space}

-- a character that a document may have (XML 1.0, [2] Char)
abbrev pub is_char : ℕ → Bool
is_char c = (((c == 9 || c == 10) || c == 13) || (nat_le 32 c && nat_lt c 0xD800)) || ((nat_le 0xE000 c && nat_lt c 0xFFFE) || (nat_le 0x1_0000 c && nat_le c 0x10_FFFF))

-- the value of a decimal digit, or of a hexadecimal one where `hex`; `Malformed` for any other byte
abbrev pub digit_of : Bool → ℕ → Result ℕ Fault
digit_of hex b =
    if nat_le 48 b && nat_le b 57 then Ok (b - 48)
    else if hex && (nat_le 65 b && nat_le b 70) then Ok (b - 55)
    else if hex && (nat_le 97 b && nat_le b 102) then Ok (b - 87)
    else Err Malformed

-- 16 where `hex`, else 10
abbrev pub base_of : Bool → ℕ
base_of hex = if hex then 16 else 10

-- the number that n and these digits after it write; `Malformed` past U+10FFFF
abbrev pub number_from : Bool → ℕ → List ℕ → Result ℕ Fault
number_from hex n [] = Ok n
number_from hex n (b ∷ bs) = digit_of hex b >>= λ d. if nat_le (base_of hex * n + d) 0x10_FFFF then number_from hex (base_of hex * n + d) bs else Err Malformed

-- the number that one or more digits write; `Malformed` past U+10FFFF
abbrev pub number_of : Bool → List ℕ → Result ℕ Fault
number_of hex [] = Err Malformed
number_of hex (b ∷ bs) = number_from hex 0 (b ∷ bs)

-- the number of a character reference, from the bytes after `#` on (XML 1.0, [66] CharRef)
abbrev pub code_of : List ℕ → Result ℕ Fault
code_of [] = Err Malformed
code_of (b ∷ bs) = if b == 120 then number_of true bs else number_of false (b ∷ bs)

-- the character of a character reference, which must be one that a document may have; from the bytes after `#` on (XML 1.0, section 4.1)
abbrev pub character_of : List ℕ → Result ℕ Fault
character_of bytes = code_of bytes >>= λ c. if is_char c then Ok c else Err Malformed

-- the character of one of the five entities that need no declaration; `Malformed` for any other name (XML 1.0, section 4.6)
abbrev pub entity_of : List ℕ → Result ℕ Fault
entity_of name =
    if bytes_eq name (codes "lt") then Ok 60
    else if bytes_eq name (codes "gt") then Ok 62
    else if bytes_eq name (codes "amp") then Ok 38
    else if bytes_eq name (codes "quot") then Ok 34
    else if bytes_eq name (codes "apos") then Ok 39
    else Err Malformed

-- the character that the bytes between `&` and `;` stand for (XML 1.0, [67] Reference)
abbrev pub reference_of : List ℕ → Result ℕ Fault
reference_of [] = Err Malformed
reference_of (b ∷ bs) = if b == 35 then character_of bs else entity_of (b ∷ bs)

-- what was read, with these bytes before it
abbrev pub before : List ℕ → Result (List ℕ) Fault → Result (List ℕ) Fault
before front read = read >>= λ bs. Ok (front ++ bs)

-- a byte outside of references; in the value of an attribute white space is a space (XML 1.0, section 3.3.3)
abbrev pub plain_byte : Bool → ℕ → ℕ
plain_byte attribute b = if attribute && is_space b then 32 else b

-- The text with each reference replaced by its character. Inside a reference, `Some` holds its bytes so far.
unfoldable pub resolved_in : Bool → Option (List ℕ) → List ℕ → Result (List ℕ) Fault
resolved_in attribute None [] = Ok []
resolved_in attribute (Some name) [] = Err Malformed
resolved_in attribute None (b ∷ bs) = if b == 38 then resolved_in attribute (Some []) bs else before (plain_byte attribute b ∷ []) (resolved_in attribute None bs)
resolved_in attribute (Some name) (b ∷ bs) = if b == 59 then (reference_of name >>= λ c. before (encode_utf8 c) (resolved_in attribute None bs)) else resolved_in attribute (Some (name ++ b ∷ [])) bs

-- the text with each reference replaced by its character, and in the value of an attribute with white space as spaces
abbrev pub resolved : Bool → List ℕ → Result (List ℕ) Fault
resolved attribute bytes = resolved_in attribute None bytes

-- the bytes, where they are UTF-8; else `Malformed`
abbrev pub utf8 : List ℕ → Result (List ℕ) Fault
utf8 bytes = if utf8_valid_len bytes == length bytes then Ok bytes else Err Malformed
