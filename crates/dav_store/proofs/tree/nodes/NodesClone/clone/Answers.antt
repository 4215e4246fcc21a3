use Rattle.dav_store.specs.Tree.{IsCloneOfNode}
use Rattle.dav_store.proofs.TreeSteps.{none_cloned}
use Rattle.dav_store.proofs.tree.nodes.NodesClone.clone.Goals as goal

-- src/tree/nodes.rt
pub invariant_of-result : goal.invariant_of-result
invariant_of-result g c n above =
    none_cloned (IsCloneOfNode g.K.Clone.is_clone g.D.Clone.is_clone) n c.self.inside.by_number c.in_ok-clone.field-0
    c.in_ok-clone.ensures.cases (c.self.invariant n above)
