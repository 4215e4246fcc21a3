-- How an element tree is written: its names with their prefixes, and the declarations that they need (Namespaces in XML 1.0, sections 3 and 6).
use Rattle.std.specs.Prelude.{ℕ, Bool, false, ◌==◌, if◌then◌else◌, List, [], ◌∷◌, ◌++◌, length, bytes_eq, codes, Option, Some, None}
use Rattle.dav_core.specs.Element.{ElementTree, ElementTrees, element, text, trees, no_trees, tree_then, xmlns_name}
use Rattle.dav_xml.specs.Bytes.{after_text}
use Rattle.dav_xml.specs.Scopes.{Scope, uri_of}
use Rattle.dav_xml.specs.Flat.{flat}
use Rattle.dav_xml.specs.Spelling.{spellings}

-- the prefix that an attribute of this name declares, the empty one where it is `xmlns`; none where it declares nothing
abbrev pub declared_prefix : List ℕ → Option (List ℕ)
declared_prefix name = if bytes_eq name (codes "xmlns") then Some [] else after_text (codes "xmlns:") name

-- whether what is declared is this prefix
abbrev pub declares : List ℕ → Option (List ℕ) → Bool
declares prefix None = false
declares prefix (Some other) = bytes_eq other prefix

-- the scope with this prefix declared too, where there is one, with this namespace
abbrev pub with_prefix : Scope → List ℕ → Option (List ℕ) → Scope
with_prefix scope uri None = scope
with_prefix scope uri (Some prefix) = scope ++ (prefix, uri) ∷ []

-- the scope within an element of these attributes: with what they declare
abbrev pub scope_below : Scope → List (List ℕ × List ℕ) → Scope
scope_below scope [] = scope
scope_below scope (a ∷ others) = scope_below (with_prefix scope a.1 (declared_prefix a.0)) others

-- the text, or an empty one where there is none
abbrev pub or_empty : Option (List ℕ) → List ℕ
or_empty None = []
or_empty (Some bytes) = bytes

-- The namespace of a prefix that a tree uses without a namespace and without a declaration: those of five prefixes of WebDAV and its
-- clients, else `urn:unknown`.
abbrev pub known : List ℕ → List ℕ
known prefix =
    if bytes_eq prefix (codes "D") then codes "DAV:"
    else if bytes_eq prefix (codes "A") then codes "http://apache.org/dav/props/"
    else if bytes_eq prefix (codes "Z") then codes "urn:schemas-microsoft-com:"
    else if bytes_eq prefix (codes "nc") then codes "http://nextcloud.org/ns"
    else if bytes_eq prefix (codes "oc") then codes "http://owncloud.org/ns"
    else codes "urn:unknown"

-- the namespace that was found for a prefix, or the one that the prefix is known with
abbrev pub uri_or : List ℕ → Option (List ℕ) → List ℕ
uri_or prefix None = known prefix
uri_or prefix (Some uri) = uri

-- the namespace that an element's name has to have: its own, or that of its prefix; empty for none
abbrev pub wanted : Scope → List ℕ → Option (List ℕ) → List ℕ
wanted scope prefix (Some uri) = uri
wanted scope prefix None = if length prefix == 0 then [] else uri_or prefix (uri_of prefix scope)

-- a name as it is written, with its prefix and a colon, where it has one
abbrev pub name_with : List ℕ → List ℕ → List ℕ
name_with [] name = name
name_with (b ∷ prefix) name = b ∷ (prefix ++ 58 ∷ name)

-- these attributes with one more, unless it declares this prefix
abbrev pub other_added : List ℕ → List (List ℕ × List ℕ) → List ℕ × List ℕ → List (List ℕ × List ℕ)
other_added prefix made a = if declares prefix (declared_prefix a.0) then made else made ++ a ∷ []

-- these attributes, with those after them that don't declare this prefix
abbrev pub others_after : List ℕ → List (List ℕ × List ℕ) → List (List ℕ × List ℕ) → List (List ℕ × List ℕ)
others_after prefix made [] = made
others_after prefix made (a ∷ others) = others_after prefix (other_added prefix made a) others

-- whether what was found for a prefix is this namespace; no namespace is the empty one
abbrev pub has_uri : Option (List ℕ) → List ℕ → Bool
has_uri None uri = length uri == 0
has_uri (Some found) uri = bytes_eq found uri

-- whether a prefix has this namespace in a scope; no namespace is the empty one
abbrev pub is_in_scope : Scope → List ℕ → List ℕ → Bool
is_in_scope scope prefix uri = has_uri (uri_of prefix scope) uri

-- the attributes of an element and the scope within it, with its prefix declared with this namespace, in place of a declaration of the
-- prefix among them
abbrev pub declared_too : Scope → List ℕ → List ℕ → List (List ℕ × List ℕ) → List (List ℕ × List ℕ) × Scope
declared_too scope prefix uri attributes = (others_after prefix [] attributes ++ (xmlns_name prefix, uri) ∷ [], scope ++ (prefix, uri) ∷ [])

-- the attributes of an element, and the scope within it: its prefix is declared with its namespace, where it doesn't have that namespace
-- already
abbrev pub placed : Scope → List ℕ → List ℕ → List (List ℕ × List ℕ) → List (List ℕ × List ℕ) × Scope
placed scope prefix uri attributes = if is_in_scope scope prefix uri then (attributes, scope) else declared_too scope prefix uri attributes

-- the attributes with which an element is written, and the scope within it, from the scope around it, its prefix, its namespace and its
-- attributes
abbrev pub place_of : Scope → List ℕ → Option (List ℕ) → List (List ℕ × List ℕ) → List (List ℕ × List ℕ) × Scope
place_of scope prefix namespace attributes =
    let inner = scope_below scope attributes in placed inner prefix (wanted inner prefix namespace) attributes

abbrev mutual
  -- The tree by its names as they are written, with the declarations that they need within this scope (Namespaces in XML 1.0, sections 3
  -- and 6).
  pub written : Scope → ElementTree → ElementTree
  written scope (element name prefix namespace attributes children) =
      let place = place_of scope (or_empty prefix) namespace attributes in
      element (name_with (or_empty prefix) name) None None place.0 (trees (written_after place.1 [] children))
  written scope (text bytes) = text bytes

  -- children that were written before, with these after them
  pub written_after : Scope → List ElementTree → ElementTrees → List ElementTree
  written_after scope made no_trees = made
  written_after scope made (tree_then t ts) = written_after scope (made ++ written scope t ∷ []) ts

-- the declaration with which each document begins, with a line feed after it (XML 1.0, section 2.8)
abbrev pub declaration : List ℕ
declaration = codes "<?xml version=\"1.0\" encoding=\"utf-8\"?>\n"

-- The document of an element tree: the declaration, and the root with the declarations of namespaces that its names need (XML 1.0,
-- section 2.1; Namespaces in XML 1.0, section 3).
abbrev pub document_of : ElementTree → List ℕ
document_of t = declaration ++ spellings (flat (written [] t))
