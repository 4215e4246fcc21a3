use Rattle.std.proofs.Common.{◌≡◌, ◌≤◌, ℕ, IsTrue, length, slice_index}
use Rattle.dav_journal.specs.Journal.{Stays}
use Rattle.dav_journal.proofs.journal.Journal.rest.Given as goal

-- from `to` on there are zeros
abbrev pub invariant-loop-self : goal.invariant-loop-self
invariant-loop-self g l = record {
  stays : Stays g.D.Disk l.fn.self l.self;
  within : l.to ≤ l.fn.self.len;
  zeros : IsTrue (g.D.Disk.is_clean l.self.disk) → length (g.D.Disk.seen l.fn.self.disk) ≡ l.fn.self.len → (i : ℕ) → l.to ≤ i → slice_index (g.D.Disk.seen l.fn.self.disk) i ≡ 0;
}

abbrev pub decreases-loop-self : goal.decreases-loop-self
decreases-loop-self g l = l.to
