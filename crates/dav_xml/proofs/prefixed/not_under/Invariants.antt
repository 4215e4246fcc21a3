use Rattle.std.proofs.Common.{◌≡◌, ◌++◌, drop, map}
use Rattle.dav_core.specs.ElementView.{attribute_bytes}
use Rattle.dav_xml.specs.Prefixed.{not_under}
use Rattle.dav_xml.proofs.prefixed.not_under.Given as goal

abbrev pub invariant-loop-attribute : goal.invariant-loop-attribute
invariant-loop-attribute l = (map attribute_bytes l.others.items ++ not_under l.prefix (map attribute_bytes (drop l.attribute-index l.attributes))) ≡ not_under l.prefix (map attribute_bytes l.attributes)
