use Rattle.dav_store.proofs.TreeKept.{rooted_with_value}
use Rattle.dav_store.proofs.tree.Tree.get_node_mut.Goals as goal

-- src/tree.rt
pub invariant_of-self-lent : goal.invariant_of-self-lent
invariant_of-self-lent g c = λ r. (λ w. rooted_with_value c.self.inside.nodes c.args.id w c.self.invariant, c.self.invariant)
