use Rattle.std.proofs.Common.{arith}
use Rattle.dav_store.proofs.TreeLists.{listed_more}
use Rattle.dav_store.proofs.tree.node.Node.list.Goals as goal

pub loop-i-preserved : goal.loop-i-preserved
loop-i-preserved g c = grind (arith, listed_more)
