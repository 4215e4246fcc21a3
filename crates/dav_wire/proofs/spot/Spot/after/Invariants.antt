use Rattle.std.proofs.Common.{length, drop, ◌-◌, ◌≡◌, ◌≤◌}
use Rattle.dav_wire.specs.Spots.{spot_after}
use Rattle.dav_wire.proofs.spot.Spot.after.Given as goal

abbrev pub invariant-loop-at : goal.invariant-loop-at
invariant-loop-at l = (l.at ≤ length l.bytes) × (spot_after l.spot (drop l.at l.bytes) ≡ spot_after l.fn.self l.bytes)

abbrev pub decreases-loop-at : goal.decreases-loop-at
decreases-loop-at l = length l.bytes - l.at
