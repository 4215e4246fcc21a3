use Rattle.std.proofs.Common.{◌≡◌, ◌-◌, ◌≤◌, length, map, drop}
use Rattle.dav_headers.specs.IfParts.{part_view}
use Rattle.dav_headers.specs.IfWritten.{with_front, conditions_at}
use Rattle.dav_headers.specs.IfTexts.{condition_view}
use Rattle.dav_headers.proofs.if_header.written.conditions_of.Given as goal

abbrev pub invariant-conditions : goal.invariant-conditions
invariant-conditions l =
    (l.at ≤ length l.parts)
    × (with_front (map condition_view l.found.items) (conditions_at (drop l.at (map part_view l.parts))) ≡ conditions_at (map part_view l.parts))

abbrev pub decreases-conditions : goal.decreases-conditions
decreases-conditions l = length l.parts - l.at
