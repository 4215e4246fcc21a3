use Rattle.std.proofs.Common.{ap, ◌∙◌}
use Rattle.dav_store.specs.Tree.{without_old, seated, unlinked_at, linked, parent_of, place_of, child}
use Rattle.dav_store.proofs.tree.nodes.Nodes.move_over.Goals as goal

-- src/tree/nodes.rt
pub returns-clause-ok : goal.returns-clause-ok
returns-clause-ok g c =
    c.remove_old.ensures
    ∙ (λ i. without_old (c.child-old.ensures i) (c.seat.ensures i))
    ∙ ap (λ t. without_old (child g.K.PartialEq.eq c.args.self.now c.args.parent c.args.key) (seated t c.args.id c.args.parent))
    (c.unlink_at.ensures ∙ (λ i. unlinked_at (c.in_ok-link.ensures.ok i) (c.parent-from.ensures i) (c.place-place.ensures i))
    ∙ ap (λ p. unlinked_at (linked g.K.PartialEq.eq c.args.self.now c.args.parent c.args.key c.args.id) (parent_of c.args.self.now c.args.id) (place_of c.args.self.now p c.args.id)) c.parent-from.ensures)
