use Rattle.std.proofs.Common.{◌-◌, ◌≤◌, length, map, drop}
use Rattle.dav_headers.specs.IfParts.{part_view}
use Rattle.dav_headers.specs.IfTexts.{list_view}
use Rattle.dav_headers.proofs.IfListLemmas.{ListsSoFar}
use Rattle.dav_headers.proofs.if_header.written.lists_of.Given as goal

abbrev pub invariant-loop-at : goal.invariant-loop-at
invariant-loop-at l =
    (l.at ≤ length l.parts)
    × ListsSoFar (map part_view l.parts) (drop l.at (map part_view l.parts)) (map list_view l.lists.items)

abbrev pub decreases-loop-at : goal.decreases-loop-at
decreases-loop-at l = length l.parts - l.at
