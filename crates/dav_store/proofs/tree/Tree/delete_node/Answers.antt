use Rattle.std.proofs.Common.{◌≡◌, Some, false, sym, subst, ap, ◌∙◌}
use Rattle.std.specs.Option.{option_map_or, is_some}
use Rattle.dav_store.specs.Tree.{IsRooted, node, has_some}
use Rattle.dav_store.proofs.TreeHangs.{rooted_deleted}
use Rattle.dav_store.proofs.tree.Tree.delete_node.Goals as goal

-- src/tree.rt
pub invariant_of-self : goal.invariant_of-self
invariant_of-self g c =
    let found : node c.self.inside.nodes c.args.id ≡ Some c.in-Some.n.now = sym c.in-Some.ensures in
    subst IsRooted (sym c.delete.ensures)
    (rooted_deleted c.self.inside.nodes c.args.id c.self.invariant (ap is_some found) c.if-id-eq-ROOT_ID.false
    (ap (λ o. option_map_or (λ x. has_some x.children) o false) found ∙ sym c.has_children.ensures ∙ c.if-has_children.false))
