-- Trees with expanded names, as reading gives them (Namespaces in XML 1.0).
use Rattle.std.specs.Prelude.{◌≡◌, ℕ, zero, suc, ◌≤◌, Bool, true, false, List, [], ◌∷◌, length, ◌⊎◌, Option, Some, None, Ok}
use Rattle.std.specs.List.{AllByRecursion}
use Rattle.dav_core.specs.Element.{ElementTree, ElementTrees, element, text, no_trees, tree_then, xmlns_name}
use Rattle.dav_xml.specs.Names.{plain_name}
use Rattle.dav_xml.specs.Legal.{IsLegal, IsLegalAttribute}
use Rattle.dav_xml.specs.Scopes.{Scope, declared_by}
use Rattle.dav_xml.specs.Namespaces.{Expanded, namespace_of, has_attribute, are_distinct, kept_after}
use Rattle.dav_xml.specs.Written.{scope_below, or_empty, wanted, is_in_scope, place_of}

-- A name without a colon (Namespaces in XML 1.0, [4] NCName).
abbrev pub IsPlain : List ℕ → Type 0
IsPlain name = plain_name name ≡ Ok name

-- An attribute may declare this prefix with this namespace; an empty prefix stands for names without one (Namespaces in XML 1.0,
-- section 3).
pub record IsDeclarable (d : List ℕ × List ℕ) : Type 0 where
  pub declared : declared_by (xmlns_name d.0, d.1) ≡ Ok (Some d)

-- A name's prefix and namespace, as reading gives them: with a prefix it has a namespace, without one it may have one, and not an
-- empty one (Namespaces in XML 1.0, sections 5 and 6.2).
abbrev pub IsExpandedName : Option (List ℕ) → Option (List ℕ) → Type 0
IsExpandedName None None = Unit {0}
IsExpandedName None (Some []) = ⊥
IsExpandedName None (Some (b ∷ uri)) = IsDeclarable ([], b ∷ uri) × IsLegal (b ∷ uri)
IsExpandedName (Some prefix) None = ⊥
IsExpandedName (Some prefix) (Some uri) = IsPlain prefix × (IsDeclarable (prefix, uri) × IsLegal uri)

-- These attributes are what is kept of some element's attributes, where the element's name has this prefix and namespace.
pub record AreKept (prefix namespace : Option (List ℕ)) (attributes : List (List ℕ × List ℕ)) : Type 0 where
  pub scope : Scope
  pub given : List (List ℕ × List ℕ)
  pub names : List Expanded
  pub declarable : AllByRecursion IsDeclarable scope
  pub own : namespace_of scope prefix ≡ Ok namespace
  pub kept : kept_after scope prefix ([], []) given ≡ Ok (attributes, names)
  pub distinct : are_distinct attributes ≡ true
  pub legal : AllByRecursion IsLegalAttribute attributes

abbrev mutual
  -- An element of at most n levels with expanded names, as it is read (XML 1.0, 2.2; Namespaces in XML 1.0, 3 to 6).
  pub IsExpanded : ℕ → ElementTree → Type 0
  IsExpanded zero (element name prefix namespace attributes children) = ⊥
  IsExpanded (suc n) (element name prefix namespace attributes children) =
      IsPlain name × (IsExpandedName prefix namespace × (AreKept prefix namespace attributes × AreExpanded n false children))
  IsExpanded n (text bytes) = ⊥

  -- Children, where a text may have come last. No text is empty, and none follows another.
  pub AreExpanded : ℕ → Bool → ElementTrees → Type 0
  AreExpanded n texted no_trees = Unit {0}
  AreExpanded n texted (tree_then (element name prefix namespace attributes children) ts) = IsExpanded n (element name prefix namespace attributes children) × AreExpanded n false ts
  AreExpanded n true (tree_then (text bytes) ts) = ⊥
  AreExpanded n false (tree_then (text []) ts) = ⊥
  AreExpanded n false (tree_then (text (b ∷ bs)) ts) = IsLegal (b ∷ bs) × AreExpanded n true ts

abbrev mutual
  -- A tree of names as they are written, where each element has at most 256 attributes and is within at most 256 declarations.
  pub IsFew : Scope → ElementTree → Type 0
  IsFew scope (element name prefix namespace attributes children) =
      (length attributes ≤ 256) × ((length (scope_below scope attributes) ≤ 256) × AreFew (scope_below scope attributes) children)
  IsFew scope (text bytes) = Unit {0}

  pub AreFew : Scope → ElementTrees → Type 0
  AreFew scope no_trees = Unit {0}
  AreFew scope (tree_then t ts) = IsFew scope t × AreFew scope ts

-- ---- trees that are sent

-- an attribute that declares a prefix
pub record IsDeclaration (a : List ℕ × List ℕ) : Type 0 where
  pub prefix : List ℕ
  pub named : a.0 ≡ xmlns_name prefix
  pub declared : declared_by a ≡ Ok (Some (prefix, a.1))
  pub legal : IsLegalAttribute a

-- The attributes declare prefixes alone, each once, and the element's own only with the namespace that it has.
pub record AreDeclarations (scope : Scope) (prefix namespace : Option (List ℕ)) (attributes : List (List ℕ × List ℕ)) : Type 0 where
  pub all : AllByRecursion IsDeclaration attributes
  pub distinct : are_distinct attributes ≡ true
  pub own : (has_attribute (xmlns_name (or_empty prefix)) attributes ≡ false) ⊎ (is_in_scope (scope_below scope attributes) (or_empty prefix) (or_empty namespace) ≡ true)

-- Attributes that are sent, and those that are read of them: all of them, or none of declarations alone.
pub data ReadAs (scope : Scope) (prefix namespace : Option (List ℕ)) (attributes meant : List (List ℕ × List ℕ)) : Type 0 where
  all_kept : AreKept prefix namespace attributes → meant ≡ attributes → ReadAs scope prefix namespace attributes meant
  none_kept : AreDeclarations scope prefix namespace attributes → meant ≡ [] → ReadAs scope prefix namespace attributes meant

-- An element that is sent within a scope, by its name, prefix, namespace and attributes, and the namespace and the attributes that are read of it.
pub record ElementMeans (scope : Scope) (name : List ℕ) (prefix namespace : Option (List ℕ)) (attributes : List (List ℕ × List ℕ)) (found : Option (List ℕ)) (meant : List (List ℕ × List ℕ)) : Type 0 where
  pub plain : IsPlain name
  pub expanded : IsExpandedName prefix found
  pub wants : wanted (scope_below scope attributes) (or_empty prefix) namespace ≡ or_empty found
  pub read_as : ReadAs scope prefix found attributes meant

abbrev mutual
  -- A tree of at most n levels that is sent within a scope, and the tree that is read of it: of the same names, prefixes and texts, with the
  -- namespaces that the prefixes have (Namespaces in XML 1.0, 3 to 6).
  pub Means : ℕ → Scope → ElementTree → ElementTree → Type 0
  Means zero scope (element name prefix namespace attributes children) u = ⊥
  Means (suc n) scope (element name prefix namespace attributes children) (element name1 prefix1 found meant children1) =
      (name1 ≡ name) × ((prefix1 ≡ prefix) × (ElementMeans scope name prefix namespace attributes found meant
      × AllMean n false (place_of scope (or_empty prefix) namespace attributes).1 children children1))
  Means (suc n) scope (element name prefix namespace attributes children) (text bytes) = ⊥
  Means n scope (text bytes) u = ⊥

  -- Children, where a text may have come last. No text is empty, and none follows another (Namespaces in XML 1.0, 3 to 6).
  pub AllMean : ℕ → Bool → Scope → ElementTrees → ElementTrees → Type 0
  AllMean n texted scope no_trees no_trees = Unit {0}
  AllMean n texted scope no_trees (tree_then u us) = ⊥
  AllMean n texted scope (tree_then t ts) no_trees = ⊥
  AllMean n texted scope (tree_then (element name prefix namespace attributes children) ts) (tree_then u us) =
      Means n scope (element name prefix namespace attributes children) u × AllMean n false scope ts us
  AllMean n true scope (tree_then (text bytes) ts) (tree_then u us) = ⊥
  AllMean n false scope (tree_then (text []) ts) (tree_then u us) = ⊥
  AllMean n false scope (tree_then (text (b ∷ bs)) ts) (tree_then u us) = IsLegal (b ∷ bs) × ((u ≡ text (b ∷ bs)) × AllMean n true scope ts us)
