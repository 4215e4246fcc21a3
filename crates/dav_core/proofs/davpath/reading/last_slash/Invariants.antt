use Rattle.std.proofs.Common.{◌≢◌, ℕ, ◌<◌, ◌≤◌, length, get_or}
use Rattle.dav_core.proofs.davpath.reading.last_slash.Given as goal

abbrev pub invariant-loop-i : goal.invariant-loop-i
invariant-loop-i l =
    (l.i ≤ length l.buf) × ((k : ℕ) → l.i ≤ k → k < length l.buf → get_or l.buf k 0 ≢ 47)

abbrev pub decreases-loop-i : goal.decreases-loop-i
decreases-loop-i l = l.i
