use Rattle.dav_journal.specs.Journal.{IsClean, OnlyReads, disk_of}
use Rattle.dav_journal.proofs.pair.elder.see_elder_copy.Given as goal

abbrev pub invariant-loop : goal.invariant-loop
invariant-loop g l = OnlyReads g.D.Disk (disk_of l.fn.from) (disk_of l.from) × (IsClean g.D.Disk l.to → IsClean g.D.Disk l.fn.to)
