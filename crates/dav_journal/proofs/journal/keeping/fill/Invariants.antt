use Rattle.std.proofs.Common.{◌≤◌, ℕ, IsTrue, length}
use Rattle.sqlite_disk.specs.Disk.{Follows}
use Rattle.dav_journal.specs.Write.{HasZeros, KeepsBelow}
use Rattle.dav_journal.proofs.journal.keeping.fill.Given as goal

abbrev pub invariant-loop : goal.invariant-loop
invariant-loop g l = record {
  low : l.from ≤ l.at;
  step : (n : ℕ) → n ≤ l.from → Follows (KeepsBelow n) (g.D.Disk.may_leave l.fn.disk) (g.D.Disk.may_leave l.disk);
  others : (n : ℕ) → n ≤ l.from → KeepsBelow n (g.D.Disk.seen l.fn.disk) (g.D.Disk.seen l.disk);
  clean : IsTrue (g.D.Disk.is_clean l.disk) → IsTrue (g.D.Disk.is_clean l.fn.disk);
  zeros : l.from ≤ length (g.D.Disk.seen l.fn.disk) → HasZeros (g.D.Disk.seen l.disk) l.from l.at;
}
