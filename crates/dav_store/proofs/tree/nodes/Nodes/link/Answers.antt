use Rattle.std.proofs.Common.{arith}
use Rattle.dav_store.proofs.TreeSteps.{written_back}
use Rattle.dav_store.proofs.tree.nodes.Nodes.link.Goals as goal

pub returns-in_err-link-clause-err : goal.returns-in_err-link-clause-err
returns-in_err-link-clause-err g c = grind (arith, written_back)
