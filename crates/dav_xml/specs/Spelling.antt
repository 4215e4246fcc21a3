-- How pieces of markup are written.
use Rattle.std.specs.Prelude.{◌≡◌, ℕ, Bool, true, false, ◌&&◌, ◌==◌, if◌then◌else◌, List, [], ◌∷◌, ◌++◌, length, codes, Option, None, Some}
use Rattle.std.specs.List.{list_all, AllByRecursion}
use Rattle.std.specs.Str.Lossy.{utf8_valid_len}
use Rattle.dav_xml.specs.Bytes.{is_space, is_name_start, is_name_byte}
use Rattle.dav_xml.specs.Token.{Markup, opens, empty, closes, content, nothing}

-- A byte as it is written, or the reference that stands for it; in the value of an attribute line feeds and tabs are references too, so
-- that they are kept (XML 1.0, sections 2.4 and 3.3.3).
abbrev pub escaped_byte : Bool → ℕ → List ℕ
escaped_byte attribute b =
    if b == 38 then codes "&amp;"
    else if b == 60 then codes "&lt;"
    else if b == 62 then codes "&gt;"
    else if b == 34 then codes "&quot;"
    else if b == 13 then codes "&#13;"
    else if attribute && b == 10 then codes "&#10;"
    else if attribute && b == 9 then codes "&#9;"
    else b ∷ []

-- the reference that stands for a byte, or the byte itself where none does
abbrev pub or_byte : ℕ → Option (List ℕ) → List ℕ
or_byte b None = b ∷ []
or_byte b (Some reference) = reference

-- a text or the value of an attribute as it is written, with references (`escaped_byte`)
unfoldable pub escaped : Bool → List ℕ → List ℕ
escaped attribute [] = []
escaped attribute (b ∷ bs) = escaped_byte attribute b ++ escaped attribute bs

-- an attribute as it is written, after a space and with its value in double quotes
abbrev pub attribute_spelling : List ℕ × List ℕ → List ℕ
attribute_spelling a = 32 ∷ (a.0 ++ 61 ∷ 34 ∷ (escaped true a.1 ++ 34 ∷ []))

-- attributes as they are written, one after another, each after a space
unfoldable pub attributes_spelling : List (List ℕ × List ℕ) → List ℕ
attributes_spelling [] = []
attributes_spelling (a ∷ others) = attribute_spelling a ++ attributes_spelling others

-- a piece of markup as it is written; a comment or an instruction is left out, and a CDATA section is written as text
abbrev pub spelling : Markup → List ℕ
spelling (opens name attributes) = 60 ∷ (name ++ (attributes_spelling attributes ++ 62 ∷ []))
spelling (empty name attributes) = 60 ∷ (name ++ (attributes_spelling attributes ++ 47 ∷ 62 ∷ []))
spelling (closes name) = 60 ∷ 47 ∷ (name ++ 62 ∷ [])
spelling (content is_blank bytes) = escaped false bytes
spelling nothing = []

-- pieces of markup as they are written, one after another (XML 1.0, sections 2.4 and 3.1)
unfoldable pub spellings : List Markup → List ℕ
spellings [] = []
spellings (t ∷ ts) = spelling t ++ spellings ts

-- the bytes are a name, in which all bytes past ASCII count as those of names (XML 1.0, [5] Name)
abbrev pub is_name : List ℕ → Bool
is_name [] = false
is_name (b ∷ bs) = is_name_start b && list_all is_name_byte (b ∷ bs)

-- the bytes are UTF-8
abbrev pub is_utf8 : List ℕ → Bool
is_utf8 bytes = utf8_valid_len bytes == length bytes

-- the bytes are UTF-8 and a name, in which all characters past ASCII count as those of names (XML 1.0, [5] Name)
abbrev pub IsName : List ℕ → Type 0
IsName name = (is_name name ≡ true) × (is_utf8 name ≡ true)

-- an attribute with a name, and a value that is UTF-8
pub record IsAttribute (a : List ℕ × List ℕ) : Type 0 where
  pub name : IsName a.0
  pub value : is_utf8 a.1 ≡ true

-- attributes with names, and values that are UTF-8
abbrev pub AreAttributes : List (List ℕ × List ℕ) → Type 0
AreAttributes attributes = AllByRecursion IsAttribute attributes

-- a text is the first of these pieces
abbrev pub starts_text : List Markup → Bool
starts_text [] = false
starts_text (content is_blank bytes ∷ ts) = true
starts_text (t ∷ ts) = false

-- A text that is read again as this piece: it is UTF-8, no text comes right after it, and `is_blank` says whether it is written as white
-- space alone.
pub record IsText (is_blank : Bool) (bytes : List ℕ) (ts : List Markup) : Type 0 where
  pub utf8 : is_utf8 bytes ≡ true
  pub alone : starts_text ts ≡ false
  pub blank : is_blank ≡ list_all is_space (escaped false bytes)

-- A piece of markup that is read again as it is written, with these pieces after it: a tag with names, or a text of at least one byte
-- with no text right after it.
abbrev pub IsSpelled : Markup → List Markup → Type 0
IsSpelled (opens name attributes) ts = IsName name × AreAttributes attributes
IsSpelled (empty name attributes) ts = IsName name × AreAttributes attributes
IsSpelled (closes name) ts = IsName name
IsSpelled (content is_blank []) ts = ⊥
IsSpelled (content is_blank (b ∷ bs)) ts = IsText is_blank (b ∷ bs) ts
IsSpelled nothing ts = ⊥

-- Pieces of markup that are read again as they are written: names are names, texts and values are UTF-8, and no text is empty or right
-- after another (XML 1.0, sections 2.3, 2.4 and 3.1).
abbrev pub AreSpelled : List Markup → Type 0
AreSpelled [] = Unit {0}
AreSpelled (t ∷ ts) = IsSpelled t ts × AreSpelled ts
