use Rattle.std.proofs.Common.{◌≡◌, ◌≤◌, ◌+◌, length}
use Rattle.dav_journal.specs.Block.{zeros_in}
use Rattle.dav_journal.proofs.block.zeros_of.Given as goal

abbrev pub invariant-loop-eight : goal.invariant-loop-eight
invariant-loop-eight l = (l.count + zeros_in l.rest ≡ zeros_in l.bytes) × (l.count + length l.rest ≤ length l.bytes)

abbrev pub decreases-loop-eight : goal.decreases-loop-eight
decreases-loop-eight l = length l.rest

abbrev pub invariant-loop-rest : goal.invariant-loop-rest
invariant-loop-rest l = (l.count + zeros_in l.rest ≡ zeros_in l.bytes) × (l.count + length l.rest ≤ length l.bytes)

abbrev pub decreases-loop-rest : goal.decreases-loop-rest
decreases-loop-rest l = length l.rest
