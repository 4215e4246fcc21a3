-- Texts that a document may have (XML 1.0, section 2.2), and trees of them.
use Rattle.std.specs.Prelude.{◌≡◌, ℕ, true, List, Option, Some, None}
use Rattle.std.specs.List.{list_all, AllByRecursion}
use Rattle.std.specs.Str.{encode_utf8_all}
use Rattle.dav_core.specs.Element.{ElementTree, ElementTrees, element, text, no_trees, tree_then}
use Rattle.dav_xml.specs.References.{is_char}
use Rattle.dav_xml.specs.Spelling.{is_name}

-- the bytes are the UTF-8 of characters that a document may have (XML 1.0, [2] Char)
pub record IsLegal (bytes : List ℕ) : Type 0 where
  pub characters : List ℕ
  pub legal : list_all is_char characters ≡ true
  pub spelled : encode_utf8_all characters ≡ bytes

-- The bytes are a name, in which all characters past ASCII count that a document may have (XML 1.0, [5] Name).
pub record IsLegalName (bytes : List ℕ) : Type 0 where
  pub name : is_name bytes ≡ true
  pub legal : IsLegal bytes

-- an attribute with a legal name and a value of legal characters
pub record IsLegalAttribute (a : List ℕ × List ℕ) : Type 0 where
  pub name : IsLegalName a.0
  pub value : IsLegal a.1

abbrev mutual
  -- A tree whose names are legal, and whose values and texts are of legal characters (XML 1.0, sections 2.2 and 2.3).
  pub HasLegal : ElementTree → Type 0
  HasLegal (element name prefix namespace attributes children) = IsLegalName name × (AllByRecursion IsLegalAttribute attributes × HaveLegal children)
  HasLegal (text bytes) = IsLegal bytes

  -- trees whose names are legal, and whose values and texts are of legal characters
  pub HaveLegal : ElementTrees → Type 0
  HaveLegal no_trees = Unit {0}
  HaveLegal (tree_then t ts) = HasLegal t × HaveLegal ts

-- a text of legal characters, where there is one
abbrev pub IsLegalIfAny : Option (List ℕ) → Type 0
IsLegalIfAny None = Unit {0}
IsLegalIfAny (Some bytes) = IsLegal bytes

abbrev mutual
  -- A tree whose namespaces, values and texts are of legal characters (XML 1.0, section 2.2); its names aren't looked at.
  pub HasLegalTexts : ElementTree → Type 0
  HasLegalTexts (element name prefix namespace attributes children) = IsLegalIfAny namespace × (AllByRecursion (λ a. IsLegal a.1) attributes × HaveLegalTexts children)
  HasLegalTexts (text bytes) = IsLegal bytes

  -- trees whose namespaces, values and texts are of legal characters
  pub HaveLegalTexts : ElementTrees → Type 0
  HaveLegalTexts no_trees = Unit {0}
  HaveLegalTexts (tree_then t ts) = HasLegalTexts t × HaveLegalTexts ts
