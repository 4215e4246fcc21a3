use Rattle.std.proofs.Common.{length}
use Rattle.dav_core.specs.PathRef.{names_left}
use Rattle.dav_seen.proofs.names.+name_after.Given as goal

-- the names that are left
abbrev pub decreases-name_after : goal.decreases-name_after
decreases-name_after l = length (names_left l.front)
