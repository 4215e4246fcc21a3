use Rattle.std.proofs.Common.{◌≡◌, sym, subst, arith}
use Rattle.dav_journal.specs.Write.{HasZeros}
use Rattle.dav_journal.proofs.JournalLemmas.{kept_grown}
use Rattle.dav_journal.proofs.journal.Journal.grow.Goals as goal

pub returns-in_err-reached : goal.returns-in_err-reached
returns-in_err-reached g c = record {
  clean = c.fill.ensures.clean;
  kept = λ contents kept. kept_grown g.D.Disk c.args.self.now c.fill.new.disk c.args.self.now.len contents (g.met.D.Disk.seen_may_stay c.args.self.now.disk) (omega arith) (c.fill.ensures.crash c.args.self.now.zeros kept.low) (c.fill.ensures.others c.args.self.now.zeros kept.low) kept;
}

pub returns-then-reached-len : goal.returns-then-reached-len
returns-then-reached-len g c = record {
  clean = c.fill.ensures.clean;
  kept = λ contents kept. kept_grown g.D.Disk c.args.self.now c.fill.new.disk c.in_ok-reached.reached contents (g.met.D.Disk.seen_may_stay c.args.self.now.disk) c.in_ok-reached.ensures.reached (c.fill.ensures.crash c.args.self.now.zeros kept.low) (c.fill.ensures.others c.args.self.now.zeros kept.low) kept;
}

pub returns-then-not-mixes : goal.returns-then-not-mixes
returns-then-not-mixes g c = record {
  clean = c.fill.ensures.clean;
  kept = λ contents kept. kept_grown g.D.Disk c.args.self.now c.fill.new.disk c.in_ok-reached.reached contents (g.met.D.Disk.seen_may_stay c.args.self.now.disk) c.in_ok-reached.ensures.reached (c.fill.ensures.crash c.args.self.now.zeros kept.low) (c.fill.ensures.others c.args.self.now.zeros kept.low) kept;
}

pub returns-in_err-settle : goal.returns-in_err-settle
returns-in_err-settle g c = record {
  clean = λ is. c.fill.ensures.clean (c.settle.ensures.clean is);
  kept = λ contents kept.
      let j = c.args.self.now in
      let grown = kept_grown g.D.Disk j c.fill.new.disk c.in_ok-reached.reached contents (g.met.D.Disk.seen_may_stay j.disk) c.in_ok-reached.ensures.reached (c.fill.ensures.crash j.zeros kept.low) (c.fill.ensures.others j.zeros kept.low) kept in
      let now = kept.outcomes (g.D.Disk.seen j.disk) (g.met.D.Disk.seen_may_stay j.disk) in
      let same : j.zeros ≡ j.len = c.if-self.false in
      let zeros = c.in_ok-reached.ensures.zeros (omega (arith, same, now.within)) in
      c.settle.ensures.kept contents grown (subst (λ n. HasZeros (g.D.Disk.seen c.fill.new.disk) n c.in_ok-reached.reached) (sym same) zeros);
}

pub returns : goal.returns
returns g c = record {
  clean = λ is. c.fill.ensures.clean (c.settle.ensures.clean is);
  kept = λ contents kept.
      let j = c.args.self.now in
      let grown = kept_grown g.D.Disk j c.fill.new.disk c.in_ok-reached.reached contents (g.met.D.Disk.seen_may_stay j.disk) c.in_ok-reached.ensures.reached (c.fill.ensures.crash j.zeros kept.low) (c.fill.ensures.others j.zeros kept.low) kept in
      let now = kept.outcomes (g.D.Disk.seen j.disk) (g.met.D.Disk.seen_may_stay j.disk) in
      let same : j.zeros ≡ j.len = c.if-self.false in
      let zeros = c.in_ok-reached.ensures.zeros (omega (arith, same, now.within)) in
      c.settle.ensures.kept contents grown (subst (λ n. HasZeros (g.D.Disk.seen c.fill.new.disk) n c.in_ok-reached.reached) (sym same) zeros);
}
