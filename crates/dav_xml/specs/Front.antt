-- What comes before the markup: the characters of a document, its line ends and its declaration.
use Rattle.std.specs.Prelude.{ℕ, Bool, true, false, not, ◌&&◌, ◌||◌, ◌==◌, nat_le, nat_lt, if◌then◌else◌, List, [], ◌∷◌, length, map, bytes_eq, codes, is_some, Result, Ok, Err}
use Rattle.std.specs.List.{list_all, list_any}
use Rattle.std.specs.Char.{is_ascii_digit, to_ascii_lowercase}
use Rattle.std.specs.Str.Lossy.{utf8_valid_len}
use Rattle.dav_xml.specs.declared.error.Fault.{Fault}
use Rattle.dav_xml.specs.declared.error.Fault.TheVariants.{Malformed, TooLarge}
use Rattle.dav_xml.specs.Read.{◌>>=◌, needed}
use Rattle.dav_xml.specs.Bytes.{is_space, after_space, after_text, split_text}
use Rattle.dav_xml.specs.Markup.{attributes_at, first_or, tokens_of}
use Rattle.dav_xml.specs.Nesting.{nested}
use Rattle.dav_core.specs.Element.{ElementTree}

-- a byte that isn't a control character below 32, unless it is white space
abbrev pub is_printed : ℕ → Bool
is_printed b = nat_le 32 b || is_space b

-- the bytes are UTF-8, without control characters but white space, and without U+FFFE and U+FFFF (XML 1.0, [2] Char)
unfoldable pub are_chars : List ℕ → Bool
are_chars bytes =
    ((utf8_valid_len bytes == length bytes) && list_all is_printed bytes)
    && (not (is_some (split_text (239 ∷ 191 ∷ 190 ∷ []) bytes)) && not (is_some (split_text (239 ∷ 191 ∷ 191 ∷ []) bytes)))

-- The bytes with each carriage return as a line feed, and without a line feed right after it (XML 1.0, section 2.11). `returned`: the
-- byte before was a carriage return.
unfoldable pub lines : Bool → List ℕ → List ℕ
lines returned [] = []
lines returned (b ∷ bs) = if b == 13 then 10 ∷ lines true bs else if b == 10 && returned then lines false bs else b ∷ lines false bs

-- the bytes without a byte order mark at their beginning
abbrev pub after_mark : List ℕ → List ℕ
after_mark bytes = first_or (after_text (239 ∷ 187 ∷ 191 ∷ []) bytes) (λ rest. rest) bytes

-- one or more ASCII digits
abbrev pub are_digits : List ℕ → Bool
are_digits [] = false
are_digits (b ∷ bs) = list_all is_ascii_digit (b ∷ bs)

-- the version of a declaration: `1.` and digits (XML 1.0, [26] VersionNum)
abbrev pub is_version : List ℕ → Bool
is_version value = first_or (after_text (codes "1.") value) are_digits false

-- the encoding of a declaration that is read: UTF-8 or US-ASCII, case ignored (XML 1.0, [81] EncName)
abbrev pub is_encoding : List ℕ → Bool
is_encoding value = bytes_eq (map to_ascii_lowercase value) (codes "utf-8") || bytes_eq (map to_ascii_lowercase value) (codes "us-ascii")

-- the value of a standalone declaration: `yes` or `no`
abbrev pub is_yes_or_no : List ℕ → Bool
is_yes_or_no value = bytes_eq value (codes "yes") || bytes_eq value (codes "no")

-- the attribute is the version of a declaration
abbrev pub tells_version : List ℕ × List ℕ → Bool
tells_version a = bytes_eq a.0 (codes "version") && is_version a.1

-- the attribute is the encoding of a declaration
abbrev pub tells_encoding : List ℕ × List ℕ → Bool
tells_encoding a = bytes_eq a.0 (codes "encoding") && is_encoding a.1

-- the attribute is the standalone declaration
abbrev pub tells_standalone : List ℕ × List ℕ → Bool
tells_standalone a = bytes_eq a.0 (codes "standalone") && is_yes_or_no a.1

-- the version, and then the encoding and the standalone declaration where they are (XML 1.0, [24] VersionInfo, [80] EncodingDecl, [32]
-- SDDecl)
abbrev pub is_declaration : List (List ℕ × List ℕ) → Bool
is_declaration [] = false
is_declaration (a ∷ []) = tells_version a
is_declaration (a ∷ b ∷ []) = tells_version a && (tells_encoding b || tells_standalone b)
is_declaration (a ∷ b ∷ c ∷ []) = (tells_version a && tells_encoding b) && tells_standalone c
is_declaration (a ∷ b ∷ c ∷ d ∷ more) = false

-- whether the bytes between `<?xml` and `?>` are those of a declaration, without references
abbrev pub tells : List ℕ → Bool
tells inside = let found = attributes_at inside in (not (list_any (λ b. b == 38) inside) && is_declaration found.0) && length (after_space found.1) == 0

-- what follows the declaration of which `<?xml` was read; `Malformed` where it isn't one (XML 1.0, [23] XMLDecl)
abbrev pub declaration_at : List ℕ → Result (List ℕ) Fault
declaration_at bytes = needed (split_text (codes "?>") bytes) >>= λ p. if tells p.0 then Ok p.1 else Err Malformed

-- What follows the declaration, from the bytes after `<?xml` on; an instruction whose name is longer is no declaration, so the whole
-- stays.
abbrev pub declared_behind : List ℕ → List ℕ → Result (List ℕ) Fault
declared_behind whole [] = Ok whole
declared_behind whole (b ∷ bs) = if is_space b then declaration_at (b ∷ bs) else Ok whole

-- what follows the declaration, where the bytes begin with one; else the bytes
unfoldable pub after_declaration : List ℕ → Result (List ℕ) Fault
after_declaration bytes = first_or (after_text (codes "<?xml") bytes) (declared_behind bytes) (Ok bytes)

-- The tree of a document, by its names as they are written; `TooLarge` where it has more than 1 MiB (XML 1.0, sections 2.1, 2.2, 2.8 and
-- 2.11).
unfoldable pub raw_document : List ℕ → Result ElementTree Fault
raw_document bytes = do
  rest ← if nat_lt 0x10_0000 (length bytes) then Err TooLarge else if are_chars bytes then after_declaration (after_mark (lines false bytes)) else Err Malformed
  tokens ← tokens_of rest
  nested tokens
