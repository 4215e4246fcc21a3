-- Trees of names as they are written, as pieces of markup.
use Rattle.std.specs.Prelude.{ℕ, zero, suc, Bool, true, false, List, [], ◌∷◌, ◌++◌, Some, None, Result}
use Rattle.dav_xml.specs.declared.error.Fault.{Fault}
use Rattle.dav_xml.specs.Read.{◌>>=◌}
use Rattle.dav_xml.specs.Markup.{tokens_of}
use Rattle.dav_xml.specs.Nesting.{nested}
use Rattle.dav_xml.specs.Bytes.{is_space}
use Rattle.dav_xml.specs.Spelling.{escaped, spellings}
use Rattle.std.specs.List.{list_all}
use Rattle.dav_xml.specs.Token.{Markup, opens, empty, closes, content}
use Rattle.dav_core.specs.Element.{ElementTree, ElementTrees, element, text, no_trees, tree_then}

abbrev mutual
  -- the pieces of markup of a tree, in order, by its names as they are written: an element without children is an empty element's tag
  pub flat : ElementTree → List Markup
  flat (element name prefix namespace attributes no_trees) = empty name attributes ∷ []
  flat (element name prefix namespace attributes (tree_then t ts)) = opens name attributes ∷ (flats (tree_then t ts) ++ closes name ∷ [])
  flat (text bytes) = content (list_all is_space (escaped false bytes)) bytes ∷ []

  -- the pieces of markup of trees, in order
  pub flats : ElementTrees → List Markup
  flats no_trees = []
  flats (tree_then t ts) = flat t ++ flats ts

-- the text of a tree by its names as they are written, without the declarations of a document
abbrev pub tree_spelling : ElementTree → List ℕ
tree_spelling t = spellings (flat t)

abbrev mutual
  -- An element of at most n levels in which no name has a prefix or a namespace apart from it, no text is empty, and none follows
  -- another.
  pub IsRaw : ℕ → ElementTree → Type 0
  IsRaw zero (element name prefix namespace attributes children) = ⊥
  IsRaw (suc n) (element name None None attributes children) = AreRaw n false children
  IsRaw (suc n) (element name None (Some namespace) attributes children) = ⊥
  IsRaw (suc n) (element name (Some prefix) namespace attributes children) = ⊥
  IsRaw n (text bytes) = ⊥

  -- children of at most n levels that are raw (`IsRaw`) or texts, where `texted` says that a text comes right before them
  pub AreRaw : ℕ → Bool → ElementTrees → Type 0
  AreRaw n texted no_trees = Unit {0}
  AreRaw n texted (tree_then (element name prefix namespace attributes children) ts) = IsRaw n (element name prefix namespace attributes children) × AreRaw n false ts
  AreRaw n true (tree_then (text bytes) ts) = ⊥
  AreRaw n false (tree_then (text []) ts) = ⊥
  AreRaw n false (tree_then (text (b ∷ bs)) ts) = AreRaw n true ts

-- the tree of the pieces of markup that a text consists of, by its names as they are written, or the first fault
abbrev pub nested_tokens : List ℕ → Result ElementTree Fault
nested_tokens bytes = tokens_of bytes >>= nested
