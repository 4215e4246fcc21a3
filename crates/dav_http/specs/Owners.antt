-- The owners in the body of a LOCK, with the prefix by which XML can show them (RFC 4918, section 14.17).
use Rattle.std.specs.Prelude.{if◌then◌else◌, map, codes}
use Rattle.dav_core.specs.Element.{ElementTree, children_of, is_named, with_children}
use Rattle.dav_xml.specs.Prefixed.{under_prefix}

-- An element named `owner` gets the prefix `D`, with which the server keeps and tells it. Any other element, or a text, is as it was.
abbrev pub prefixed_child : ElementTree → ElementTree
prefixed_child e = if is_named (codes "owner") e then under_prefix (codes "D") e else e

-- A body whose child elements named `owner` have the prefix `D`.
abbrev pub prefixed_owners : ElementTree → ElementTree
prefixed_owners e = with_children e (map prefixed_child (children_of e))
