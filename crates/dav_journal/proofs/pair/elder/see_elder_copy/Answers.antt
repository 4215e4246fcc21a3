use Rattle.dav_journal.proofs.PairLemmas.{reads_same, reads_then}
use Rattle.dav_journal.proofs.pair.elder.see_elder_copy.Goals as goal

pub loop-init : goal.loop-init
loop-init g c = (reads_same g.D.Disk _, λ clean. c.open.ensures.clean (c.next_block.ensures.reads.clean clean))

pub loop-preserved : goal.loop-preserved
loop-preserved g c = (reads_then g.D.Disk _ _ _ c.loop.invariant.0 c.is_next_elder.ensures, λ clean. c.loop.invariant.1 (c.next_block-in-loop.ensures.reads.clean clean))
