use Rattle.std.proofs.Common.{arith}
use Rattle.dav_store.proofs.TreeSteps.{taken_back}
use Rattle.dav_store.proofs.tree.nodes.Nodes.add.Goals as goal

pub returns-in-Err-clause-err : goal.returns-in-Err-clause-err
returns-in-Err-clause-err g c = grind (arith, taken_back)
