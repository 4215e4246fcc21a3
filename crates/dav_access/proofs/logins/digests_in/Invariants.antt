use Rattle.std.proofs.Common.{◌≡◌, ◌≤◌, ◌++◌, All, length, ◌+◌, ◌*◌}
use Rattle.std.specs.List.{flat_map}
use Rattle.dav_access.proofs.logins.digests_in.Given as goal

abbrev pub invariant-loop-digest : goal.invariant-loop-digest
invariant-loop-digest l =
    (flat_map (λ d. d) l.digests.items ++ l.rest ≡ l.bytes) × All (λ d. length d ≡ 32) l.digests.items
    × (32 * length l.digests.items + length l.rest ≡ length l.bytes) × (length l.bytes ≤ 32768)

abbrev pub decreases-loop-digest : goal.decreases-loop-digest
decreases-loop-digest l = length l.rest
