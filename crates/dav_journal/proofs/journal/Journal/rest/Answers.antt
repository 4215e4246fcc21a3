use Rattle.std.proofs.Common.{◌≡◌, ◌-◌, length, arith, rules}
use Rattle.sqlite_disk.specs.Disk.{Holds}
use Rattle.dav_journal.proofs.JournalLemmas.{rest_zeros, stays_then}
use Rattle.dav_journal.proofs.journal.Journal.rest.Goals as goal

pub returns-then-count-gt0-clause-rest : goal.returns-then-count-gt0-clause-rest
returns-then-count-gt0-clause-rest g c clean whole i low =
    let j = c.args.self.now in
    let first = c.loop-self.invariant.stays in
    let later = c.read.ensures.stays in
    let long : length c.read.new.piece ≡ c.loop-self.to - c.max-from.result = search rules in
    let held : Holds (g.D.Disk.seen j.disk) c.max-from.result c.read.new.piece = rw first.reads.seen at c.in_ok-read.ensures.read clean (search rules) in
    rest_zeros (g.D.Disk.seen j.disk) c.read.new.piece c.max-from.result c.loop-self.to c.used-count.result held (omega (arith, long, c.loop-self-test.true)) c.used-count.ensures.zeros
    (c.loop-self.invariant.zeros (later.reads.clean clean) whole) i (omega (arith, low, first.end, later.end))

pub loop-self-preserved : goal.loop-self-preserved
loop-self-preserved g c = record {
  stays = stays_then g.D.Disk _ _ _ c.loop-self.invariant.stays c.read.ensures.stays;
  within = omega (arith, c.loop-self.invariant.within, c.loop-self-test.true);
  zeros = λ clean whole i low.
      let j = c.args.self.now in
      let first = c.loop-self.invariant.stays in
      let later = c.read.ensures.stays in
      let long : length c.read.new.piece ≡ c.loop-self.to - c.max-from.result = search rules in
      let held : Holds (g.D.Disk.seen j.disk) c.max-from.result c.read.new.piece = rw first.reads.seen at c.in_ok-read.ensures.read clean (search rules) in
      rest_zeros (g.D.Disk.seen j.disk) c.read.new.piece c.max-from.result c.loop-self.to c.used-count.result held (omega (arith, long, c.loop-self-test.true)) c.used-count.ensures.zeros
      (c.loop-self.invariant.zeros (later.reads.clean clean) whole) i (omega (arith, low, c.if-count-gt0.false));
}
