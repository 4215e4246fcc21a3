-- The pieces of markup of a document, without where they lie in memory.
use Rattle.std.specs.Prelude.{ℕ, Bool, List, map, string_bytes}
use Rattle.dav_core.specs.ElementView.{attribute_bytes}
use Rattle.dav_xml.specs.declared.token.Token.{Token}
use Rattle.dav_xml.specs.declared.token.Token.TheVariants as tokens

-- A piece of markup: a start tag, an empty element's tag, an end tag, a text or a CDATA section (`content`), or a comment or an
-- instruction (`nothing`). Of a text, `is_blank` is whether it is written as white space alone.
pub data Markup : Type 0 where
  opens : (name : List ℕ) (attributes : List (List ℕ × List ℕ)) → Markup
  empty : (name : List ℕ) (attributes : List (List ℕ × List ℕ)) → Markup
  closes : (name : List ℕ) → Markup
  content : (is_blank : Bool) (bytes : List ℕ) → Markup
  nothing : Markup

-- what contracts see of a piece of markup, without where it lies in memory
abbrev pub token_view : Token → Markup
token_view (tokens.Open name attributes) = opens (string_bytes name) (map attribute_bytes attributes.items)
token_view (tokens.Empty name attributes) = empty (string_bytes name) (map attribute_bytes attributes.items)
token_view (tokens.Close name) = closes (string_bytes name)
token_view (tokens.Text is_blank text) = content is_blank (string_bytes text)
token_view tokens.Nothing = nothing

-- what contracts see of pieces of markup, without where they lie in memory
abbrev pub token_views : List Token → List Markup
token_views ts = map token_view ts
