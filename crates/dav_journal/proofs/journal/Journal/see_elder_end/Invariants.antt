use Rattle.std.proofs.Common.{◌-◌}
use Rattle.dav_journal.specs.Journal.{Stays}
use Rattle.dav_journal.proofs.journal.Journal.see_elder_end.Given as goal

abbrev pub invariant-loop-at : goal.invariant-loop-at
invariant-loop-at g l = Stays g.D.Disk l.fn.self l.self

abbrev pub decreases-loop-at : goal.decreases-loop-at
decreases-loop-at g l = l.self.len - l.at
