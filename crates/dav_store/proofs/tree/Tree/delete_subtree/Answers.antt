use Rattle.dav_store.proofs.tree.Tree.delete_subtree.Goals as goal

-- src/tree.rt
pub invariant_of-self : goal.invariant_of-self
invariant_of-self g c = c.delete_below.ensures.rooted
