use Rattle.std.proofs.Common.{map, drop}
use Rattle.dav_engine.specs.Conditions.{some_holds}
use Rattle.dav_engine.specs.ConditionView.{list_of, locks_in}
use Rattle.dav_engine.proofs.ConditionLemmas.{Leads}
use Rattle.dav_engine.proofs.conditions.some_holds.Given as goal

abbrev pub invariant-loop-list : goal.invariant-loop-list
invariant-loop-list g l =
    Leads (some_holds (map list_of l.lists)) (g.F.DavFileSystem.state l.fn.fs)
    (some_holds (map list_of (drop l.list-index l.lists))) (g.F.DavFileSystem.state l.fs)
    (locks_in g.L.DavLockSystem.locks l.ls)
