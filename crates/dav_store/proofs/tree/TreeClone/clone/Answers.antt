use Rattle.dav_store.proofs.TreeKept.{rooted_clone}
use Rattle.dav_store.proofs.tree.TreeClone.clone.Goals as goal

-- src/tree.rt
pub invariant_of-result : goal.invariant_of-result
invariant_of-result g c = rooted_clone g.K.Clone.is_clone g.D.Clone.is_clone c.self.inside.nodes c.in_ok-clone.field-0 c.in_ok-clone.ensures.cases c.self.invariant
