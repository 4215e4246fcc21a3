use Rattle.std.proofs.Common.{[], map, option_map}
use Rattle.std.proofs.lemmas.Result.{err_from_is_err_and}
use Rattle.dav_core.specs.ElementView.{attribute_bytes}
use Rattle.dav_xml.specs.KeptView.{kept_view}
use Rattle.dav_xml.specs.Scopes.{pair_bytes}
use Rattle.dav_xml.specs.Namespaces.{kept_after}
use Rattle.dav_xml.proofs.Kept.{kept_fails}
use Rattle.dav_xml.proofs.namespaces.kept_of.Goals as goal

pub returns-in_err-state : goal.returns-in_err-state
returns-in_err-state c =
    let p = err_from_is_err_and c.from_residual.result c.from_residual.ensures.1 in
    let scope = map pair_bytes c.args.scope.now in
    let own = option_map (λ p. p.now) c.args.own in
    rw (p.1, p.2)
    (kept_fails c.in_err-state.field-0.0 scope own (kept_view c.loop-attribute.state) c.args.attributes.now c.loop-attribute.attribute-index c.attribute-item.result (kept_after scope own ([], []) (map attribute_bytes c.args.attributes.now)) c.loop-attribute-test.true c.attribute-item.is c.in_err-state.ensures c.loop-attribute.invariant)
