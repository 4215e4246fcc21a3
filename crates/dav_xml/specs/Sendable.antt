-- Trees that may be sent (Namespaces in XML 1.0, sections 4 to 6).
use Rattle.std.specs.Prelude.{◌≡◌, ℕ, ◌≤◌, Bool, true, false, List, [], ◌∷◌, length, Option, Some, None, Ok}
use Rattle.std.specs.List.{AllByRecursion}
use Rattle.dav_core.specs.Element.{ElementTree, ElementTrees, element, text, no_trees, tree_then, xmlns_name, depth_of}
use Rattle.dav_xml.specs.Legal.{IsLegal}
use Rattle.dav_xml.specs.Namespaces.{are_distinct, document}
use Rattle.dav_xml.specs.Written.{or_empty, known, written, document_of}
use Rattle.dav_xml.specs.Expanded.{IsPlain, IsDeclarable, IsExpandedName, AreKept, IsExpanded, IsDeclaration, IsFew, Means}

-- A prefix that an element of a reply may have without a namespace: it may be declared with the one for which it is known
-- (`known`; Namespaces in XML 1.0, section 3).
pub record IsKnownPrefix (prefix : List ℕ) : Type 0 where
  pub plain : IsPlain prefix
  pub declarable : IsDeclarable (prefix, known prefix)
  pub legal : IsLegal (known prefix)

-- The prefix, the namespace and the attributes of an element that may be sent: they are as those of an element that was read; or its own
-- prefix is declared with its namespace; or it has a known prefix and no namespace, and its attributes declare prefixes alone.
pub data IsSendableAs (prefix namespace : Option (List ℕ)) (attributes : List (List ℕ × List ℕ)) : Type 0 where
  as_read : IsExpandedName prefix namespace → AreKept prefix namespace attributes → IsSendableAs prefix namespace attributes
  own_declared : (uri : List ℕ) → IsExpandedName prefix (Some uri) → namespace ≡ Some uri → attributes ≡ (xmlns_name (or_empty prefix), uri) ∷ [] → IsSendableAs prefix namespace attributes
  known_prefix : (own : List ℕ) → IsKnownPrefix own → prefix ≡ Some own → namespace ≡ None → AllByRecursion IsDeclaration attributes → are_distinct attributes ≡ true → IsSendableAs prefix namespace attributes

abbrev mutual
  -- An element that may be sent: its names are plain, and its texts are legal.
  pub IsSendable : ElementTree → Type 0
  IsSendable (element name prefix namespace attributes children) = IsPlain name × (IsSendableAs prefix namespace attributes × AreSendable false children)
  IsSendable (text bytes) = ⊥

  -- Children, where a text may have come last. No text is empty, and none follows another.
  pub AreSendable : Bool → ElementTrees → Type 0
  AreSendable texted no_trees = Unit {0}
  AreSendable texted (tree_then (element name prefix namespace attributes children) ts) = IsSendable (element name prefix namespace attributes children) × AreSendable false ts
  AreSendable true (tree_then (text bytes) ts) = ⊥
  AreSendable false (tree_then (text []) ts) = ⊥
  AreSendable false (tree_then (text (b ∷ bs)) ts) = IsLegal (b ∷ bs) × AreSendable true ts

-- What is written of a tree is read again as the tree that it means.
pub record IsReadAgain (t : ElementTree) : Type 0 where
  pub meant : ElementTree
  pub means : Means 64 [] t meant
  pub read : document (document_of t) ≡ Ok meant

-- A tree that may be sent is read again, where it has at most 64 levels, each element that is written has at most 256 attributes and is
-- within at most 256 declarations, and the whole has at most 1 MiB.
abbrev pub SendableIsRead : Type 0
SendableIsRead =
    (t : ElementTree) → IsSendable t → depth_of t ≤ 64 → IsFew [] (written [] t) → length (document_of t) ≤ 0x10_0000 → IsReadAgain t

-- A tree with expanded names may be sent.
abbrev pub ExpandedIsSendable : Type 0
ExpandedIsSendable = (n : ℕ) (t : ElementTree) → IsExpanded n t → IsSendable t

-- Each tree that is read may be sent.
abbrev pub ReadIsSendable : Type 0
ReadIsSendable = (bytes : List ℕ) (t : ElementTree) → document bytes ≡ Ok t → IsSendable t
