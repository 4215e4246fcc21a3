use Rattle.std.proofs.Common.{length}
use Rattle.dav_core.specs.PathRef.{names_left}
use Rattle.dav_store.proofs.paths.+compare.Given as goal

-- the names that are left
abbrev pub decreases-compare : goal.decreases-compare
decreases-compare l = length (names_left l.a)
