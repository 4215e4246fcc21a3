use Rattle.std.proofs.Common.{◌≡◌, drop, map}
use Rattle.dav_core.specs.ElementView.{attribute_bytes}
use Rattle.dav_xml.specs.Namespaces.{has_attribute}
use Rattle.dav_xml.proofs.namespaces.has_attribute.Given as goal

abbrev pub invariant-loop-attribute : goal.invariant-loop-attribute
invariant-loop-attribute l = has_attribute l.name (map attribute_bytes (drop l.attribute-index l.attributes)) ≡ has_attribute l.name (map attribute_bytes l.attributes)
