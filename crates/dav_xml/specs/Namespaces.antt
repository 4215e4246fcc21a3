-- From names as they are written to names with their namespaces (Namespaces in XML 1.0).
use Rattle.std.specs.Prelude.{ℕ, Bool, true, false, not, ◌&&◌, ◌||◌, nat_lt, if◌then◌else◌, List, [], ◌∷◌, ◌++◌, length, bytes_eq, codes, Option, Some, None, Result, Ok, Err}
use Rattle.dav_xml.specs.declared.error.Fault.{Fault}
use Rattle.dav_xml.specs.declared.error.Fault.TheVariants.{Malformed, TooLarge}
use Rattle.dav_xml.specs.Read.{◌>>=◌}
use Rattle.dav_xml.specs.Bytes.{split_byte}
use Rattle.dav_xml.specs.Names.{plain_name}
use Rattle.dav_xml.specs.Scopes.{Scope, uri_of, xml_uri, declared_by}
use Rattle.dav_xml.specs.Front.{raw_document}
use Rattle.dav_core.specs.Element.{ElementTree, ElementTrees, element, text, trees, no_trees, tree_then}

-- The prefix, if there is one, and the local part of a name that was cut at its first colon; malformed where either is no NCName
-- (Namespaces in XML 1.0, [7] to [11]).
abbrev pub name_parts : List ℕ → Option (List ℕ × List ℕ) → Result (Option (List ℕ) × List ℕ) Fault
name_parts name None = plain_name name >>= λ local. Ok (None, local)
name_parts name (Some p) = plain_name p.0 >>= λ prefix. plain_name p.1 >>= λ local. Ok (Some prefix, local)

-- The prefix, if there is one, and the local part of a qualified name; malformed where it is none (Namespaces in XML 1.0, [7] QName).
unfoldable pub qualified : List ℕ → Result (Option (List ℕ) × List ℕ) Fault
qualified name = name_parts name (split_byte 58 name)

-- The namespace of names without a prefix, as it is declared: none where it isn't declared, or declared empty
-- (Namespaces in XML 1.0, section 6.2).
abbrev pub default_of : Option (List ℕ) → Option (List ℕ)
default_of None = None
default_of (Some []) = None
default_of (Some (b ∷ bs)) = Some (b ∷ bs)

-- The namespace of a prefix, as it is declared; malformed where it isn't declared (Namespaces in XML 1.0, section 5).
abbrev pub declared_uri : Option (List ℕ) → Result (List ℕ) Fault
declared_uri None = Err Malformed
declared_uri (Some uri) = Ok uri

-- The namespace of a prefix in a scope: that of `xml` is known, any other has to be declared (Namespaces in XML 1.0, sections 3 and 5).
abbrev pub uri_in : Scope → List ℕ → Result (List ℕ) Fault
uri_in scope prefix = if bytes_eq prefix (codes "xml") then Ok xml_uri else declared_uri (uri_of prefix scope)

-- The namespace of an element's name, by its prefix; a name without a prefix has the default namespace, if there is one
-- (Namespaces in XML 1.0, sections 6.1 and 6.2).
abbrev pub namespace_of : Scope → Option (List ℕ) → Result (Option (List ℕ)) Fault
namespace_of scope None = Ok (default_of (uri_of [] scope))
namespace_of scope (Some prefix) = uri_in scope prefix >>= λ uri. Ok (Some uri)

-- Whether an attribute has this name, as it is written.
abbrev pub has_attribute : List ℕ → List (List ℕ × List ℕ) → Bool
has_attribute name [] = false
has_attribute name (a ∷ others) = bytes_eq a.0 name || has_attribute name others

-- Whether no two attributes have one name, as it is written (XML 1.0, section 3.1, Unique Att Spec).
abbrev pub are_distinct : List (List ℕ × List ℕ) → Bool
are_distinct [] = true
are_distinct (a ∷ others) = not (has_attribute a.0 others) && are_distinct others

-- ---- what is declared within an element

-- A scope with a declaration more, behind the others; as it is without one.
abbrev pub with_declared : Scope → Option (List ℕ × List ℕ) → Scope
with_declared scope None = scope
with_declared scope (Some d) = scope ++ d ∷ []

-- A scope with what an attribute declares, if it declares anything; malformed where it declares what may not be declared.
abbrev pub within_step : Scope → List ℕ × List ℕ → Result Scope Fault
within_step scope a = declared_by a >>= λ d. Ok (with_declared scope d)

-- What is declared within an element of these attributes, in a scope; malformed where one declares what may not be declared
-- (Namespaces in XML 1.0, section 6.1).
abbrev pub within : Scope → List (List ℕ × List ℕ) → Result Scope Fault
within scope [] = Ok scope
within scope (a ∷ others) = within_step scope a >>= λ inner. within inner others

-- A scope of at most 256 declarations; too large with more.
abbrev pub few : Scope → Result Scope Fault
few scope = if nat_lt 256 (length scope) then Err TooLarge else Ok scope

-- What is declared within an element of these attributes, in a scope. Too large with more than 256 attributes or declarations;
-- malformed where two attributes have one name, or one declares what may not be declared.
abbrev pub inside : Scope → List (List ℕ × List ℕ) → Result Scope Fault
inside scope attributes =
    if nat_lt 256 (length attributes) then Err TooLarge else if are_distinct attributes then (within scope attributes >>= few) else Err Malformed

-- ---- attributes

-- The name of the attribute that declares a prefix that isn't empty (Namespaces in XML 1.0, [2] PrefixedAttName).
abbrev pub declaring : List ℕ → List ℕ
declaring prefix = codes "xmlns:" ++ prefix

-- Whether a name's prefix, if it has one, is this one.
abbrev pub has_prefix : Option (List ℕ) → List ℕ → Bool
has_prefix None prefix = false
has_prefix (Some own) prefix = bytes_eq own prefix

-- Whether a prefix needs no declaration among the attributes that are kept: it is `xml`, that of the element, or declared there already.
abbrev pub is_known : Option (List ℕ) → List (List ℕ × List ℕ) → List ℕ → Bool
is_known own kept prefix = (bytes_eq prefix (codes "xml") || has_prefix own prefix) || has_attribute (declaring prefix) kept

-- The attributes that are kept, with a declaration of a prefix behind them where it needs one.
abbrev pub again : Option (List ℕ) → List (List ℕ × List ℕ) → List ℕ → List ℕ → List (List ℕ × List ℕ)
again own kept prefix uri = if is_known own kept prefix then kept else kept ++ (declaring prefix, uri) ∷ []

-- the namespace and the local part of an attribute's name
abbrev pub Expanded : Type 0
Expanded = List ℕ × List ℕ

-- Whether a list has this expanded name.
abbrev pub has_expanded : Expanded → List Expanded → Bool
has_expanded e [] = false
has_expanded e (f ∷ fs) = (bytes_eq f.0 e.0 && bytes_eq f.1 e.1) || has_expanded e fs

-- The attributes that are kept so far, and the expanded names of those among them that have a prefix.
abbrev pub Kept : Type 0
Kept = List (List ℕ × List ℕ) × List Expanded

-- An attribute with a prefix is kept, with a declaration of the prefix behind it where it needs one; malformed where another one has
-- its expanded name (Namespaces in XML 1.0, section 6.3).
abbrev pub kept_prefixed : Option (List ℕ) → Kept → List ℕ × List ℕ → List ℕ → List ℕ → List ℕ → Result Kept Fault
kept_prefixed own kept a prefix uri local =
    if has_expanded (uri, local) kept.1 then Err Malformed
    else Ok (again own (kept.0 ++ a ∷ []) prefix uri, kept.1 ++ (uri, local) ∷ [])

-- An attribute that declares nothing is kept, by the parts of its name; one without a prefix has no namespace. Malformed where its
-- prefix isn't declared, or another one has its expanded name (Namespaces in XML 1.0, sections 5, 6.2 and 6.3).
abbrev pub kept_as : Scope → Option (List ℕ) → Kept → List ℕ × List ℕ → Option (List ℕ) × List ℕ → Result Kept Fault
kept_as scope own kept a (None, local) = Ok (kept.0 ++ a ∷ [], kept.1)
kept_as scope own kept a (Some prefix, local) = uri_in scope prefix >>= λ uri. kept_prefixed own kept a prefix uri local

-- An attribute is kept, unless it declares something; malformed where its name is no qualified name.
abbrev pub kept_unless : Scope → Option (List ℕ) → Kept → List ℕ × List ℕ → Option (List ℕ × List ℕ) → Result Kept Fault
kept_unless scope own kept a (Some d) = Ok kept
kept_unless scope own kept a None = qualified a.0 >>= kept_as scope own kept a

-- What is kept after one attribute more, of an element with this prefix, if it has one.
abbrev pub kept_step : Scope → Option (List ℕ) → Kept → List ℕ × List ℕ → Result Kept Fault
kept_step scope own kept a = declared_by a >>= kept_unless scope own kept a

-- What is kept of an element's attributes, behind what was kept before: those that declare nothing, each with a declaration of its
-- prefix where it needs one. Malformed by the rules for each (Namespaces in XML 1.0, sections 3 to 6).
abbrev pub kept_after : Scope → Option (List ℕ) → Kept → List (List ℕ × List ℕ) → Result Kept Fault
kept_after scope own kept [] = Ok kept
kept_after scope own kept (a ∷ others) = kept_step scope own kept a >>= λ more. kept_after scope own more others

-- ---- elements

-- An element with its namespace and the attributes that are kept, in a scope, given its name as it is written and its children
-- (Namespaces in XML 1.0, sections 4 to 6).
unfoldable pub expanded : Scope → List ℕ → List (List ℕ × List ℕ) → List ElementTree → Result ElementTree Fault
expanded scope name attributes children = do
  parts ← qualified name
  namespace ← namespace_of scope parts.0
  kept ← kept_after scope parts.0 ([], []) attributes
  Ok (element parts.1 parts.0 namespace kept.0 (trees children))

abbrev mutual
  -- A tree of names as they are written, with the namespaces that they have in a scope (Namespaces in XML 1.0, sections 4 to 6).
  pub expanded_tree : Scope → ElementTree → Result ElementTree Fault
  expanded_tree scope (element name prefix namespace attributes children) =
      inside scope attributes >>= λ inner. expanded_after inner [] children >>= λ others. expanded inner name attributes others
  expanded_tree scope (text bytes) = Ok (text bytes)

  -- Children with their namespaces, behind those that were read before.
  pub expanded_after : Scope → List ElementTree → ElementTrees → Result (List ElementTree) Fault
  expanded_after scope made no_trees = Ok made
  expanded_after scope made (tree_then t ts) = expanded_tree scope t >>= λ u. expanded_after scope (made ++ u ∷ []) ts

-- The element tree of a document, or its first fault (XML 1.0, section 2.1; Namespaces in XML 1.0, section 7).
unfoldable pub document : List ℕ → Result ElementTree Fault
document bytes = raw_document bytes >>= expanded_tree []
