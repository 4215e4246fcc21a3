use Rattle.std.proofs.Common.{ℕ, List, ◌++◌}
use Rattle.dav_journal.specs.Journal.{IsClean, IsKept, OnlyReads, disk_of}
use Rattle.dav_journal.specs.Elder.{IsReadingElder}
use Rattle.dav_journal.proofs.pair.elder.copy_elder_blocks.Given as goal

abbrev pub invariant-loop : goal.invariant-loop
invariant-loop g l =
    (blocks : List (List ℕ))
    × (IsClean g.D.Disk l.from → (before : List (List ℕ)) → IsReadingElder g.D.Disk l.fn.from before → IsReadingElder g.D.Disk l.from (before ++ blocks))
    × ((before : List (List ℕ)) → IsKept g.D.Disk l.fn.to before → IsKept g.D.Disk l.to (before ++ blocks))
    × OnlyReads g.D.Disk (disk_of l.fn.from) (disk_of l.from) × (IsClean g.D.Disk l.to → IsClean g.D.Disk l.fn.to)
