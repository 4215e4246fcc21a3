use Rattle.std.proofs.Common.{sym, ap, ◌∙◌}
use Rattle.dav_store.specs.Tree.{value_of}
use Rattle.dav_store.specs.LockIndex.{count_of}
use Rattle.dav_store.proofs.SeatLemmas.{dropped}
use Rattle.dav_store.proofs.memls.index.Counts.drop_bare.Goals as goal

pub invariant_of-self : goal.invariant_of-self
invariant_of-self c =
    (dropped c.self.inside.tree c.self.invariant c.args.id c.in_ok-seat.seat (ap (λ u. value_of u c.args.id) c.self.view_is ∙ sym c.in_ok-seat.ensures) (c.is_bare.ensures c.if-not-is_bare.false) c.delete_node.result c.delete_node.new.self c.delete_node.ensures).0

pub returns : goal.returns
returns c k =
    (dropped c.self.inside.tree c.self.invariant c.args.id c.in_ok-seat.seat (ap (λ u. value_of u c.args.id) c.self.view_is ∙ sym c.in_ok-seat.ensures) (c.is_bare.ensures c.if-not-is_bare.false) c.delete_node.result c.delete_node.new.self c.delete_node.ensures).1 k
    ∙ ap (λ u. count_of u k) c.self.view_is
