use Rattle.std.proofs.Common.{◌≡◌, ◌⊎◌, ◌<◌, ◌-◌, ℕ, length, slice_index}
use Rattle.dav_journal.proofs.elder.is_faint.Given as goal

-- what was passed is 0 or as it was
abbrev pub invariant-loop-place : goal.invariant-loop-place
invariant-loop-place l = (i : ℕ) → i < l.place → (slice_index l.found i ≡ 0) ⊎ (slice_index l.found i ≡ slice_index l.were i)

abbrev pub decreases-loop-place : goal.decreases-loop-place
decreases-loop-place l = length l.were - l.place
