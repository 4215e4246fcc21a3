use Rattle.std.proofs.Common.{arith}
use Rattle.dav_journal.proofs.JournalLemmas.{kept_grown}
use Rattle.dav_journal.proofs.journal.Journal.grow_more.Goals as goal

pub returns-in_err-reached : goal.returns-in_err-reached
returns-in_err-reached g c = record {
  clean = c.fill.ensures.clean;
  kept = λ contents kept. kept_grown g.D.Disk c.args.self.now c.fill.new.disk c.args.self.now.len contents (g.met.D.Disk.seen_may_stay c.args.self.now.disk) (omega arith) (c.fill.ensures.crash c.args.self.now.zeros kept.low) (c.fill.ensures.others c.args.self.now.zeros kept.low) kept;
}

pub returns : goal.returns
returns g c = record {
  clean = c.fill.ensures.clean;
  kept = λ contents kept. kept_grown g.D.Disk c.args.self.now c.fill.new.disk c.in_ok-reached.reached contents (g.met.D.Disk.seen_may_stay c.args.self.now.disk) c.in_ok-reached.ensures.reached (c.fill.ensures.crash c.args.self.now.zeros kept.low) (c.fill.ensures.others c.args.self.now.zeros kept.low) kept;
}
