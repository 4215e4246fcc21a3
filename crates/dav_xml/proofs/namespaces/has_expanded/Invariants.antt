use Rattle.std.proofs.Common.{◌≡◌, drop, map}
use Rattle.dav_core.specs.ElementView.{attribute_bytes}
use Rattle.dav_xml.specs.Namespaces.{has_expanded}
use Rattle.dav_xml.proofs.namespaces.has_expanded.Given as goal

abbrev pub invariant-loop-name : goal.invariant-loop-name
invariant-loop-name l = has_expanded (l.uri, l.local) (map attribute_bytes (drop l.name-index l.names)) ≡ has_expanded (l.uri, l.local) (map attribute_bytes l.names)
