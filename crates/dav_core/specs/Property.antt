-- Dead properties (RFC 4918, section 4).
use Rattle.std.specs.Prelude.{ℕ, Bool, true, false, not, List, [], ◌∷◌, if◌then◌else◌, Option, Some, None}
use Rattle.std.specs.Option.{option_and_then, unwrap_or}
use Rattle.std.specs.FinMap.{put}
use Rattle.std.specs.List.{filter}
use Rattle.std.specs.declared.cmp.Ordering.{Ordering}
use Rattle.std.specs.Ordering.{ordering_then, is_eq}
use Rattle.dav_core.specs.Path.{name_cmp}
use Rattle.dav_core.specs.Element.{ElementTree, element, text, no_trees, tree_then, prefix_of, xmlns_name}

-- What a property is known by: its namespace, empty where it has none, and its name (RFC 4918, section 4).
abbrev pub PropertyKey : Type 0
PropertyKey = List ℕ × List ℕ

-- Keys in order: first by namespace, then by name.
abbrev pub key_cmp : PropertyKey → PropertyKey → Ordering
key_cmp a b = ordering_then (name_cmp a.0 b.0) (name_cmp a.1 b.1)

-- Dead properties in the order of their keys, each with its element where it has one (RFC 4918, section 4).
abbrev pub Properties : Type 0
Properties = List (PropertyKey × Option ElementTree)

-- A property as it is handed over: its name, prefix and namespace, and its element where it has one (RFC 4918, section 4).
pub record Property : Type 0 where
  pub name : List ℕ
  pub prefix : Option (List ℕ)
  pub namespace : Option (List ℕ)
  pub xml : Option ElementTree

-- the key of a property: no namespace and an empty one are the same (RFC 4918, section 4)
abbrev pub property_key : Property → PropertyKey
property_key p = (unwrap_or p.namespace [], p.name)

-- Whether two keys have the same namespace and the same name.
abbrev pub is_same_key : PropertyKey → PropertyKey → Bool
is_same_key k l = is_eq (key_cmp k l)

-- the property alone, without its element
abbrev pub without_xml : Property → Property
without_xml p = record p { xml = None }

-- A change of the dead properties: one is set, with its element where it has one, or removed (RFC 4918, section 9.2).
pub data Patch : Type 0 where
  SetTo : Property → Patch
  Remove : Property → Patch

-- The change of a property: set where the Bool is true, else removed.
abbrev pub patch_of : Bool × Property → Patch
patch_of (true, p) = SetTo p
patch_of (false, p) = Remove p

-- the property that a change names
abbrev pub patched_property : Patch → Property
patched_property (SetTo p) = p
patched_property (Remove p) = p

-- The properties after one change; to remove one that isn't there changes nothing (RFC 4918, section 9.2).
abbrev pub patched_by : Patch → Properties → Properties
patched_by (SetTo p) ps = put key_cmp (property_key p) p.xml ps
patched_by (Remove p) ps = filter (λ e. not (is_same_key (property_key p) e.0)) ps

-- the properties after all changes, in their order (RFC 4918, section 9.2)
abbrev pub patched : List Patch → Properties → Properties
patched [] ps = ps
patched (patch ∷ patches) ps = patched patches (patched_by patch ps)

-- The namespace of a key; none where it is empty.
abbrev pub some_namespace : List ℕ → Option (List ℕ)
some_namespace [] = None
some_namespace (b ∷ bs) = Some (b ∷ bs)

-- A stored property as it is handed out: with the prefix of its element, and with the element itself where `content` is true.
abbrev pub shown_property : Bool → PropertyKey × Option ElementTree → Property
shown_property content e = record {
  name = e.0.1;
  prefix = option_and_then prefix_of e.1;
  namespace = some_namespace e.0.0;
  xml = if content then e.1 else None;
}

-- A property of this name, prefix and namespace, whose element has one text and declares the namespace under the prefix
-- (Namespaces in XML 1.0, section 3).
abbrev pub text_property : List ℕ → List ℕ → List ℕ → List ℕ → Property
text_property name prefix namespace value = record {
  name = name;
  prefix = Some prefix;
  namespace = Some namespace;
  xml = Some (element name (Some prefix) (Some namespace) ((xmlns_name prefix, namespace) ∷ []) (tree_then (text value) no_trees));
}
