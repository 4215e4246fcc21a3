use Rattle.std.proofs.Common.{◌≡◌, [], drop, map, option_map}
use Rattle.dav_core.specs.ElementView.{attribute_bytes}
use Rattle.dav_xml.specs.KeptView.{kept_view}
use Rattle.dav_xml.specs.Scopes.{pair_bytes}
use Rattle.dav_xml.specs.Namespaces.{kept_after}
use Rattle.dav_xml.proofs.namespaces.kept_of.Given as goal

abbrev pub invariant-loop-attribute : goal.invariant-loop-attribute
invariant-loop-attribute l = kept_after (map pair_bytes l.scope) (option_map (λ p. p.now) l.own) (kept_view l.state) (map attribute_bytes (drop l.attribute-index l.attributes)) ≡ kept_after (map pair_bytes l.scope) (option_map (λ p. p.now) l.own) ([], []) (map attribute_bytes l.attributes)
