use Rattle.std.proofs.Common.{◌≡◌, ℕ, ◌++◌, length, replicate}
use Rattle.dav_access.proofs.basic.without_spaces.Given as goal

abbrev pub invariant-loop-after : goal.invariant-loop-after
invariant-loop-after l = (count : ℕ) × (l.bytes ≡ replicate count 32 ++ l.rest)

abbrev pub decreases-loop-after : goal.decreases-loop-after
decreases-loop-after l = length l.rest
