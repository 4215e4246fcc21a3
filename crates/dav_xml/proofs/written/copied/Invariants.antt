use Rattle.std.proofs.Common.{◌≡◌, take, map}
use Rattle.dav_core.specs.ElementView.{attribute_bytes}
use Rattle.dav_xml.proofs.written.copied.Given as goal

abbrev pub invariant-loop-attribute : goal.invariant-loop-attribute
invariant-loop-attribute l = map attribute_bytes l.copies.items ≡ map attribute_bytes (take l.attribute-index l.attributes)
