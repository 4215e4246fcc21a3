use Rattle.std.proofs.Common.{arith}
use Rattle.dav_store.proofs.TreeSteps.{written_back}
use Rattle.dav_store.proofs.tree.nodes.Nodes.reserve.Goals as goal

pub returns-in_err-reserve : goal.returns-in_err-reserve
returns-in_err-reserve g c = grind (arith, written_back)

pub returns : goal.returns
returns g c = grind (arith, written_back)
