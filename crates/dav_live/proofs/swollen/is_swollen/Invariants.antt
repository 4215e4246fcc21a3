use Rattle.std.proofs.Common.{◌≤◌}
use Rattle.dav_live.specs.Swollen.{IsSwollen}
use Rattle.dav_live.proofs.swollen.is_swollen.Given as goal

-- none is at a place before
abbrev pub invariant-loop-place : goal.invariant-loop-place
invariant-loop-place l = (s : IsSwollen l.bytes) → l.place ≤ s.place
