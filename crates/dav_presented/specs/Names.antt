-- The names of elements as XML has them: a namespace and a local name (Namespaces in XML 1.0, section 2.1; RFC 4918, section 4.4).
use Rattle.std.specs.Prelude.{ℕ, ◌&&◌, Bool, List, [], codes, bytes_eq, Option, Some, None}
use Rattle.std.specs.declared.cmp.Ordering.{Ordering}
use Rattle.std.specs.Ordering.{ordering_then, nat_cmp}
use Rattle.std.specs.Cmp.{IsTotalOrder, then_total, on_total}
use Rattle.std.specs.Cmp.Lexicographic.{slice_cmp, nat_list_cmp_total}
use Rattle.dav_core.specs.Element.{ElementTree, name_of, prefix_of, namespace_of}
use Rattle.dav_xml.specs.Written.{known}

-- The namespace of a name by what an element has: its namespace, else the one that its prefix is known with (Namespaces in XML 1.0,
-- section 6).
abbrev pub space_by : Option (List ℕ) → Option (List ℕ) → List ℕ
space_by (Some space) prefix = space
space_by None (Some prefix) = known prefix
space_by None None = []

-- The namespace of an element's name; empty for none (Namespaces in XML 1.0, section 2.1).
abbrev pub space_of : ElementTree → List ℕ
space_of e = space_by (namespace_of e) (prefix_of e)

-- Whether two elements have the same name in the same namespace, whatever their prefixes are (Namespaces in XML 1.0, section 2.1).
abbrev pub is_same : ElementTree → ElementTree → Bool
is_same e f = bytes_eq (space_of e) (space_of f) && bytes_eq (name_of e) (name_of f)

-- Whether an element's name is in that namespace (Namespaces in XML 1.0, section 2.1).
abbrev pub is_in : List ℕ → ElementTree → Bool
is_in space e = bytes_eq (space_of e) space

-- Whether a tree is the element of that name in the namespace `DAV:` (RFC 4918, section 14).
abbrev pub is_dav : List ℕ → ElementTree → Bool
is_dav name e = bytes_eq (name_of e) name && bytes_eq (space_of e) (codes "DAV:")

-- A name as a whole: the namespace, and the local name (Namespaces in XML 1.0, section 2.1).
abbrev pub FullName : Type 0
FullName = List ℕ × List ℕ

-- The name of an element, whatever its prefix is (Namespaces in XML 1.0, section 2.1).
abbrev pub full_name : ElementTree → FullName
full_name e = (space_of e, name_of e)

-- An order of names: by their namespaces first.
abbrev pub full_name_cmp : FullName → FullName → Ordering
full_name_cmp a b = ordering_then (slice_cmp nat_cmp a.0 b.0) (slice_cmp nat_cmp a.1 b.1)

-- of two names one comes before the other, unless they are the same, and what comes before comes before all that is behind
pub full_name_total : IsTotalOrder full_name_cmp
full_name_total = then_total (on_total (λ (n : FullName). n.0) nat_list_cmp_total) (on_total (λ (n : FullName). n.1) nat_list_cmp_total)
