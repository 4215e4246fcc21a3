use Rattle.std.proofs.Common.{take}
use Rattle.std.specs.List.{AllByRecursion}
use Rattle.dav_http.specs.Saved.{IsKeepableLock}
use Rattle.dav_http.proofs.handler.saved.are_keepable_locks.Given as goal

-- the locks so far can be saved and loaded
abbrev pub invariant-loop-i : goal.invariant-loop-i
invariant-loop-i l = AllByRecursion IsKeepableLock (take l.i l.ls)
