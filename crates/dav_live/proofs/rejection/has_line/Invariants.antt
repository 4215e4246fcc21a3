use Rattle.std.proofs.Common.{◌≡◌, ◌+◌, ℕ, ◌<◌, drop, get_or}
use Rattle.dav_live.specs.Rejections.{BeginsWithName}
use Rattle.dav_live.proofs.rejection.has_line.Given as goal

abbrev pub invariant-loop-i : goal.invariant-loop-i
invariant-loop-i l = (k : ℕ) → k < l.i → get_or l.head k 0 ≡ 10 → ¬ BeginsWithName (drop (k + 1) l.head) l.name
