use Rattle.std.proofs.Common.{ap, arith}
use Rattle.dav_journal.specs.Block.{zeros_in}
use Rattle.dav_journal.proofs.PartsLemmas.{zeros_split}
use Rattle.dav_journal.proofs.block.zeros_of.Goals as goal

-- src/block.rt:65:5
pub loop-eight-preserved : goal.loop-eight-preserved
loop-eight-preserved c = (
  omega (arith, c.loop-eight.invariant.0, zeros_split 8 c.loop-eight.rest.now, ap zeros_in c.in-Some.ensures.cases.0, ap zeros_in c.in-Some.ensures.cases.1, c.zeros_of_eight-count.ensures.value),
  omega (arith, c.loop-eight.invariant.1, c.in-Some.ensures.cases.2, c.zeros_of_eight-count.ensures.few),
)
