use Rattle.std.proofs.Common.{sym, ap, subst, ◌∙◌}
use Rattle.std.specs.Prelude.{OnSome, option_copied}
use Rattle.std.specs.Option.{option_map_or}
use Rattle.dav_store.specs.Tree.{IsFoundUnderKey, node, place_of, parent_of, children_of}
use Rattle.dav_store.proofs.TreeOnce.{seen_at, seen_nowhere}
use Rattle.dav_store.proofs.tree.Tree.see_key.Goals as goal

-- src/tree.rt
pub returns-in-Some-node : goal.returns-in-Some-node
returns-in-Some-node g c =
    let eq = g.K.PartialEq.eq in
    subst (λ t. OnSome (place_of t (parent_of t c.args.id) c.args.id) (IsFoundUnderKey eq (children_of t (parent_of t c.args.id)) c.args.id)) c.self.view_is
    (seen_at eq c.self.inside.nodes c.args.id c.in-Some.n.now c.in-Some-node.p.now (sym c.in-Some.ensures)
    (ap (node c.self.inside.nodes) (sym c.parent.ensures) ∙ sym c.in-Some-node.ensures) c.see_key.ensures)

pub returns-in_default-node : goal.returns-in_default-node
returns-in_default-node g c =
    let eq = g.K.PartialEq.eq in
    subst (λ t. OnSome (place_of t (parent_of t c.args.id) c.args.id) (IsFoundUnderKey eq (children_of t (parent_of t c.args.id)) c.args.id)) c.self.view_is
    (seen_nowhere c.self.inside.nodes c.args.id c.parent.result _
    (ap (λ o. option_map_or (λ z. z.parent) o 0) (sym c.in-Some.ensures) ∙ sym c.parent.ensures)
    (sym c.node-in-Some.ensures ∙ ap (λ o. option_copied o) c.in_default-node.is))

pub returns-in_default : goal.returns-in_default
returns-in_default g c =
    let eq = g.K.PartialEq.eq in
    subst (λ t. OnSome (place_of t (parent_of t c.args.id) c.args.id) (IsFoundUnderKey eq (children_of t (parent_of t c.args.id)) c.args.id)) c.self.view_is
    (seen_nowhere c.self.inside.nodes c.args.id 0 _
    (ap (λ o. option_map_or (λ z. z.parent) o 0) (sym c.node.ensures ∙ ap (λ o. option_copied o) c.in_default.is))
    c.self.invariant.none)
