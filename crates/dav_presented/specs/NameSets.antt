-- Sets of the names of elements (Namespaces in XML 1.0, section 2.1).
use Rattle.std.specs.Prelude.{Bool}
use Rattle.std.specs.BTreeSet.{BTreeSet, contains_by}
use Rattle.dav_core.specs.Element.{ElementTree}
use Rattle.dav_presented.specs.Names.{FullName, full_name, full_name_cmp}

-- Whether the name of an element is in a set (Namespaces in XML 1.0, section 2.1).
abbrev pub has : ElementTree → BTreeSet FullName → Bool
has e names = contains_by (full_name_cmp (full_name e)) names
