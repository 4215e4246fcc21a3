use Rattle.std.proofs.Common.{◌≡◌, [], drop, map}
use Rattle.dav_core.specs.ElementView.{attribute_bytes}
use Rattle.dav_xml.specs.Written.{others_after}
use Rattle.dav_xml.proofs.written.others_than.Given as goal

abbrev pub invariant-loop-attribute : goal.invariant-loop-attribute
invariant-loop-attribute l = others_after l.prefix (map attribute_bytes l.made.items) (map attribute_bytes (drop l.attribute-index l.attributes)) ≡ others_after l.prefix [] (map attribute_bytes l.attributes)
