use Rattle.std.proofs.Common.{◌≡◌, ◌++◌}
use Rattle.dav_core.specs.Path.{names}
use Rattle.dav_core.specs.PathRef.{names_left}
use Rattle.dav_store.proofs.names.Names.of.Given as goal

-- the names so far and those that are left are all
abbrev pub invariant-loop-segment : goal.invariant-loop-segment
invariant-loop-segment l = l.names.items ++ names_left l.segment-iterator ≡ names l.fn.path
