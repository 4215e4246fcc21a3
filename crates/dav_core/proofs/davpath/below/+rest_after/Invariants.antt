use Rattle.std.proofs.Common.{length}
use Rattle.dav_core.specs.PathRef.{names_left}
use Rattle.dav_core.proofs.davpath.below.+rest_after.Given as goal

-- the names that are left
abbrev pub decreases-rest_after : goal.decreases-rest_after
decreases-rest_after l = length (names_left l.front)
