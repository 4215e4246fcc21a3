use Rattle.std.proofs.Common.{◌≡◌, ◌<◌, ◌≤◌, ℕ, length, slice_index}
use Rattle.dav_journal.proofs.journal.reading.used.Given as goal

-- what was passed is zeros, and what is left is as it was
abbrev pub invariant-loop-rest : goal.invariant-loop-rest
invariant-loop-rest l = record {
  short : length l.rest ≤ length l.bytes;
  same : (i : ℕ) → i < length l.rest → slice_index l.rest i ≡ slice_index l.bytes i;
  zeros : (i : ℕ) → length l.rest ≤ i → slice_index l.bytes i ≡ 0;
}

abbrev pub decreases-loop-rest : goal.decreases-loop-rest
decreases-loop-rest l = length l.rest
