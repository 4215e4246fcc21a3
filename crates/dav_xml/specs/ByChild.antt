-- A document that is written child by child: what stands before the children of its root, each of these, and what stands after them (XML
-- 1.0, sections 2.1 and 3.1).
use Rattle.std.specs.Prelude.{◌≡◌, ℕ, true, List, [], ◌∷◌, ◌++◌, map}
use Rattle.std.specs.List.{concat}
use Rattle.dav_core.specs.Element.{ElementTree, attributes_of, children_of, is_element, name_of, namespace_of, prefix_of, with_children}
use Rattle.dav_xml.specs.Flat.{tree_spelling}
use Rattle.dav_xml.specs.Scopes.{Scope}
use Rattle.dav_xml.specs.Spelling.{spelling}
use Rattle.dav_xml.specs.Token.{closes, opens}
use Rattle.dav_xml.specs.Written.{declaration, document_of, name_with, or_empty, place_of, written}

-- the name of an element as it is written, with its prefix (Namespaces in XML 1.0, section 4)
abbrev pub written_name : ElementTree → List ℕ
written_name root = name_with (or_empty (prefix_of root)) (name_of root)

-- where the root of a document is written: its attributes with the declarations that its name needs, and the scope within it
abbrev pub root_place : ElementTree → List (List ℕ × List ℕ) × Scope
root_place root = place_of [] (or_empty (prefix_of root)) (namespace_of root) (attributes_of root)

-- what stands before the children of a root: the declaration, and its start tag (XML 1.0, sections 2.8 and 3.1, [40] STag)
abbrev pub opening_of : ElementTree → List ℕ
opening_of root = declaration ++ spelling (opens (written_name root) (root_place root).0)

-- a child as it is written within a root, with the declarations that it needs there
abbrev pub child_of : ElementTree → ElementTree → List ℕ
child_of root child = tree_spelling (written (root_place root).1 child)

-- what stands between the tags of a root: its children, in order (XML 1.0, section 3.1, [43] content)
abbrev pub content_of : ElementTree → List ℕ
content_of root = concat (map (child_of root) (children_of root))

-- what stands after the children of a root: its end tag (XML 1.0, section 3.1, [42] ETag)
abbrev pub closing_of : ElementTree → List ℕ
closing_of root = spelling (closes (written_name root))

-- The document of a root with children is what stands before them, each of them in order, and what stands after them (XML 1.0, section
-- 3.1, [39] element).
abbrev pub DocumentIsOfChildren : Type 0
DocumentIsOfChildren =
    (root t : ElementTree) (ts : List ElementTree) → is_element root ≡ true
    → document_of (with_children root (t ∷ ts)) ≡ opening_of root ++ (concat (map (child_of root) (t ∷ ts)) ++ closing_of root)
