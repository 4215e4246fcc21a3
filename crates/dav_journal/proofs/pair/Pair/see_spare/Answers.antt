use Rattle.std.proofs.Common.{[], sym, subst}
use Rattle.std.proofs.lemmas.Result.{on_ok_weaker}
use Rattle.dav_journal.specs.Mark.{NoneMarkedPast}
use Rattle.dav_journal.proofs.JournalLemmas.{damage_stands}
use Rattle.dav_journal.proofs.PairLemmas.{spare_nothing, spare_stands}
use Rattle.dav_journal.proofs.pair.Pair.see_spare.Goals as goal

pub returns-clause-unmarked : goal.returns-clause-unmarked
returns-clause-unmarked g c = on_ok_weaker c.see_end.result (λ unmarked clean first other. subst (λ at. NoneMarkedPast (g.D.Disk.seen c.args.self.now.spare.disk) at) (sym other.blocks) (unmarked (clean.1))) c.see_end.ensures.unmarked

pub returns-clause-damaged : goal.returns-clause-damaged
returns-clause-damaged g c place is clean mixing reading other of contents stands =
    let p = c.args.self.now in
    let first = c.if-self-ne0.false in
    let damaged = (c.see_end.ensures.damaged place is (clean.1) (mixing.1)).1 in
    damage_stands g.D.Disk p.spare [] [] other (spare_nothing g.D.Disk p first reading other) damaged (spare_stands g.D.Disk p contents first reading of stands)
