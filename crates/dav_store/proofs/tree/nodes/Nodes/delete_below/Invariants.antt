use Rattle.std.proofs.Common.{◌≡◌, true, false, length}
use Rattle.std.specs.Option.{IsSome}
use Rattle.dav_store.specs.Tree.{IsRooted, node, has_children, is_at_or_below, subtree_deleted}
use Rattle.dav_store.proofs.tree.nodes.Nodes.delete_below.Given as goal

-- the node is there still, with some of the nodes below it
abbrev pub invariant-loop-leaf : goal.invariant-loop-leaf
invariant-loop-leaf g l = record {
  rooted : IsRooted l.self;
  there : IsSome (node l.self l.id);
  below : is_at_or_below l.self l.id l.leaf ≡ true;
  bare : has_children l.self l.leaf ≡ false;
  left : subtree_deleted l.self l.id ≡ subtree_deleted l.fn.self l.id;
}

abbrev pub decreases-loop-leaf : goal.decreases-loop-leaf
decreases-loop-leaf g l = length l.self.nodes
