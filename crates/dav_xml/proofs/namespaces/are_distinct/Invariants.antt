use Rattle.std.proofs.Common.{◌≡◌, length, map}
use Rattle.dav_core.specs.ElementView.{attribute_bytes}
use Rattle.dav_xml.specs.Namespaces.{are_distinct}
use Rattle.dav_xml.proofs.namespaces.are_distinct.Given as goal

abbrev pub invariant-rest : goal.invariant-rest
invariant-rest l = are_distinct (map attribute_bytes l.rest) ≡ are_distinct (map attribute_bytes l.attributes)

abbrev pub decreases-rest : goal.decreases-rest
decreases-rest l = length l.rest
