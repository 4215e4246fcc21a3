use Rattle.std.proofs.Common.{◌≡◌, ◌⊎◌, ◌<◌, ◌-◌, ℕ, codes, slice_index}
use Rattle.dav_journal.proofs.block.may_begin.Given as goal

-- what was passed is 0 or as in the version
abbrev pub invariant-loop-place : goal.invariant-loop-place
invariant-loop-place l = (i : ℕ) → i < l.place → (slice_index l.bytes i ≡ 0) ⊎ (slice_index l.bytes i ≡ slice_index (codes "vuldarg2") i)

abbrev pub decreases-loop-place : goal.decreases-loop-place
decreases-loop-place l = 8 - l.place
