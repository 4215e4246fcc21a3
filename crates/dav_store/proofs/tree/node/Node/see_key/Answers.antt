use Rattle.std.proofs.Common.{sym, ap, subst, ◌∙◌}
use Rattle.std.specs.Prelude.{◌==◌, position}
use Rattle.dav_store.specs.Tree.{IsFoundUnderKey}
use Rattle.dav_store.proofs.TreeOnce.{key_seen, on_some}
use Rattle.dav_store.proofs.tree.node.Node.see_key.Goals as goal

-- src/tree/node.rt
pub returns-in-Some : goal.returns-in-Some
returns-in-Some g c =
    let eq = g.K.PartialEq.eq in
    on_some _ _ (subst (λ s. IsFoundUnderKey eq s.children c.args.number) c.self.view_is
    (key_seen eq c.args.number c.in-Some.i c.self.inside.children.entries c.get_index-entry.result
    (ap (λ s. position (λ e. e.1 == c.args.number) s.children) c.self.view_is ∙ sym c.place.ensures ∙ c.in-Some.is)
    c.get_index-entry.ensures.entry c.get_index-entry.ensures.value))
