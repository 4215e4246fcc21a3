use Rattle.std.proofs.Common.{◌≡◌, ◌==◌, length}
use Rattle.dav_core.specs.PathEnds.{without_end}
use Rattle.dav_core.proofs.davpath.ends.without_slashes.Given as goal

abbrev pub invariant-loop-bytes : goal.invariant-loop-bytes
invariant-loop-bytes l = without_end (λ b. b == 47) l.bytes ≡ without_end (λ b. b == 47) l.fn.bytes

abbrev pub decreases-loop-bytes : goal.decreases-loop-bytes
decreases-loop-bytes l = length l.bytes
