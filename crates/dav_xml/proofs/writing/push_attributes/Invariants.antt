use Rattle.std.proofs.Common.{◌≡◌, ◌++◌, drop, map}
use Rattle.dav_core.specs.ElementView.{attribute_bytes}
use Rattle.dav_xml.specs.Spelling.{attributes_spelling}
use Rattle.dav_xml.proofs.writing.push_attributes.Given as goal

abbrev pub invariant-loop-attribute : goal.invariant-loop-attribute
invariant-loop-attribute l = l.out.items ++ attributes_spelling (map attribute_bytes (drop l.attribute-index l.attributes)) ≡ l.fn.out.items ++ attributes_spelling (map attribute_bytes l.attributes)
