use Rattle.std.proofs.Common.{◌≡◌, drop, map}
use Rattle.dav_core.specs.ElementView.{attribute_bytes}
use Rattle.dav_xml.specs.Scopes.{pair_bytes}
use Rattle.dav_xml.specs.Written.{scope_below}
use Rattle.dav_xml.proofs.written.opened.Given as goal

abbrev pub invariant-loop-attribute : goal.invariant-loop-attribute
invariant-loop-attribute l = scope_below (map pair_bytes l.inner.items) (map attribute_bytes (drop l.attribute-index l.attributes)) ≡ scope_below (map pair_bytes l.scope) (map attribute_bytes l.attributes)
