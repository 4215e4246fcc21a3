-- The markup of XML 1.0, from bytes to pieces. Each reader answers what it read, and the bytes after it.
use Rattle.std.specs.Prelude.{ℕ, zero, suc, Bool, true, false, ◌&&◌, ◌||◌, ◌==◌, if◌then◌else◌, List, [], ◌∷◌, length, codes, Option, Some, None, is_some, Result, Ok, Err}
use Rattle.std.specs.List.{list_any, list_all}
use Rattle.dav_xml.specs.declared.error.Fault.{Fault}
use Rattle.dav_xml.specs.declared.error.Fault.TheVariants.{Malformed}
use Rattle.dav_xml.specs.Read.{◌>>=◌, needed}
use Rattle.dav_xml.specs.Bytes.{is_space, run, after_space, split_byte, after_text, split_text, name_at}
use Rattle.dav_xml.specs.Classes.{is_text}
use Rattle.dav_xml.specs.Names.{plain_name}
use Rattle.dav_xml.specs.References.{resolved, utf8}
use Rattle.dav_xml.specs.Token.{Markup, opens, empty, closes, content, nothing}

-- the item that was read, with those that `more` reads after it, and the bytes after them; where none was read, no items and all bytes
abbrev pub one_and : {X : Type 0} → Result (X × List ℕ) Fault → List ℕ → (List ℕ → List X × List ℕ) → List X × List ℕ
one_and (Err e) bytes more = ([], bytes)
one_and (Ok p) bytes more = let others = more p.1 in (p.0 ∷ others.0, others.1)

-- the items that are read one after another from the beginning, at most n, up to the first fault, and the bytes after them
unfoldable pub many : {X : Type 0} → (List ℕ → Result (X × List ℕ) Fault) → ℕ → List ℕ → List X × List ℕ
many item zero bytes = ([], bytes)
many item (suc n) bytes = one_and (item bytes) bytes (many item n)

-- what follows the white space that the bytes begin with; `Malformed` where they begin with none
abbrev pub space_at : List ℕ → Result (List ℕ) Fault
space_at [] = Err Malformed
space_at (b ∷ bs) = if is_space b then Ok (after_space (b ∷ bs)) else Err Malformed

-- what follows this byte, where the bytes begin with it; else `Malformed`
abbrev pub byte_at : ℕ → List ℕ → Result (List ℕ) Fault
byte_at wanted [] = Err Malformed
byte_at wanted (b ∷ bs) = if b == wanted then Ok bs else Err Malformed

-- a value in double or single quotes, without them, and what follows it; `Malformed` where there is none
abbrev pub quoted_at : List ℕ → Result (List ℕ × List ℕ) Fault
quoted_at [] = Err Malformed
quoted_at (q ∷ bs) = if q == 34 || q == 39 then needed (split_byte q bs) else Err Malformed

-- what the value of an attribute means: references replaced, white space as spaces; `Malformed` with a `<` in it (XML 1.0, [10] AttValue,
-- section 3.3.3)
abbrev pub value_of : List ℕ → Result (List ℕ) Fault
value_of raw = if list_any (λ b. b == 60) raw then Err Malformed else (resolved true raw >>= utf8)

-- white space and an attribute, by its name and what its value means, and what follows (XML 1.0, [41] Attribute)
unfoldable pub attribute_at : List ℕ → Result ((List ℕ × List ℕ) × List ℕ) Fault
attribute_at bytes = do
  blank ← space_at bytes
  name ← name_at blank
  rest ← byte_at 61 (after_space name.1)
  raw ← quoted_at (after_space rest)
  key ← utf8 name.0
  value ← value_of raw.0
  Ok ((key, value), raw.1)

-- the attributes that the bytes begin with, each after white space, and what follows them
abbrev pub attributes_at : List ℕ → List (List ℕ × List ℕ) × List ℕ
attributes_at bytes = many attribute_at (length bytes) bytes

-- the end of a start tag (`>`, false) or of an empty element's tag (`/>`, true), and what follows it
abbrev pub tag_end : List ℕ → Result (Bool × List ℕ) Fault
tag_end [] = Err Malformed
tag_end (b ∷ bs) = if b == 62 then Ok (false, bs) else if b == 47 then (byte_at 62 bs >>= λ rest. Ok (true, rest)) else Err Malformed

-- the piece of a start tag, or of an empty element's tag
abbrev pub tag : List ℕ → List (List ℕ × List ℕ) → Bool → Markup
tag name attributes is_empty = if is_empty then empty name attributes else opens name attributes

-- a start tag or an empty element's tag of which `<` was read, and what follows it (XML 1.0, [40] STag, [44] EmptyElemTag)
unfoldable pub tag_at : List ℕ → Result (Markup × List ℕ) Fault
tag_at bytes = do
  name ← name_at bytes
  let found = attributes_at name.1
  end ← tag_end (after_space found.1)
  text ← utf8 name.0
  Ok (tag text found.0 end.0, end.1)

-- an end tag of which `</` was read, and what follows it (XML 1.0, [42] ETag)
unfoldable pub close_at : List ℕ → Result (Markup × List ℕ) Fault
close_at bytes = do
  name ← name_at bytes
  rest ← byte_at 62 (after_space name.1)
  text ← utf8 name.0
  Ok (closes text, rest)

-- a comment of which `<!--` was read, and what follows it; no `--` may be in it (XML 1.0, [15] Comment)
unfoldable pub comment_at : List ℕ → Result (Markup × List ℕ) Fault
comment_at bytes = do
  dashes ← needed (split_text (codes "--") bytes)
  rest ← byte_at 62 dashes.1
  Ok (nothing, rest)

-- a CDATA section of which `<![CDATA[` was read, as a text, and what follows it (XML 1.0, [20] CData, [21] CDEnd)
unfoldable pub section_at : List ℕ → Result (Markup × List ℕ) Fault
section_at bytes = do
  end ← needed (split_text (codes "]]>") bytes)
  text ← utf8 end.0
  Ok (content false text, end.1)

-- the name is `xml` with letters in any case, which no instruction may have (XML 1.0, [17] PITarget)
abbrev pub is_xml : List ℕ → Bool
is_xml (a ∷ b ∷ c ∷ []) = ((a == 120 || a == 88) && (b == 109 || b == 77)) && (c == 108 || c == 76)
is_xml _ = false

-- what follows the `?>` of an instruction: right after its name, or after white space and other text
abbrev pub instruction_end : Option (List ℕ) → List ℕ → Result (List ℕ) Fault
instruction_end (Some rest) bytes = Ok rest
instruction_end None bytes = space_at bytes >>= λ blank. needed (split_text (codes "?>") blank) >>= λ end. Ok end.1

-- An instruction of which `<?` was read, and what follows it (XML 1.0, [16] PI). Its target has no colon (Namespaces in XML 1.0, section
-- 7).
unfoldable pub instruction_at : List ℕ → Result (Markup × List ℕ) Fault
instruction_at bytes = do
  name ← name_at bytes
  rest ← if is_xml name.0 then Err Malformed else instruction_end (after_text (codes "?>") name.1) name.1
  target ← plain_name name.0
  Ok (nothing, rest)

-- A text between tags, by what it means and whether it is written as white space alone, and what follows it; `Malformed` at the end of
-- the bytes, and with `]]>` in it.
abbrev pub text_from : Bool → List ℕ × List ℕ → Result (Markup × List ℕ) Fault
text_from at_end text =
    (if at_end || is_some (split_text (codes "]]>") text.0) then Err Malformed else (resolved false text.0 >>= utf8)) >>= λ value. Ok (content (list_all is_space text.0) value, text.1)

-- the text up to the next tag, with its references replaced, and what follows it (XML 1.0, [14] CharData, [67] Reference)
unfoldable pub text_at : List ℕ → Result (Markup × List ℕ) Fault
text_at bytes = text_from (length bytes == 0) (run is_text bytes)

-- what a function gives of the bytes that were found; where none were, something else
abbrev pub first_or : {R : Type 0} → Option (List ℕ) → (List ℕ → R) → R → R
first_or None found other = other
first_or (Some rest) found other = found rest

-- the piece of markup that the bytes begin with, and what follows it
unfoldable pub token_at : List ℕ → Result (Markup × List ℕ) Fault
token_at bytes =
    first_or (after_text (codes "<!--") bytes) comment_at
    (first_or (after_text (codes "<![CDATA[") bytes) section_at
    (first_or (after_text (codes "<?") bytes) instruction_at
    (first_or (after_text (codes "</") bytes) close_at
    (first_or (after_text (codes "<") bytes) tag_at
    (text_at bytes)))))

-- the items that were read, where no bytes are left; else `Malformed`
abbrev pub all_of : {X : Type 0} → List X × List ℕ → Result (List X) Fault
all_of (xs, []) = Ok xs
all_of (xs, b ∷ rest) = Err Malformed

-- the pieces of markup that a text consists of, in order; `Malformed` where it isn't such a text (XML 1.0, sections 2.4 to 2.7, 3.1 and
-- 4.1)
unfoldable pub tokens_of : List ℕ → Result (List Markup) Fault
tokens_of bytes = all_of (many token_at (length bytes) bytes)
