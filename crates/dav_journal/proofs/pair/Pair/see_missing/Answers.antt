use Rattle.std.proofs.Common.{ℕ, Err, List, ap, sym, ◌∙◌, subst}
use Rattle.sqlite_disk.specs.Disk.{Holds}
use Rattle.dav_journal.proofs.pair.Pair.see_missing.Goals as goal

pub returns-in-Err-Passed-clause-none : goal.returns-in-Err-Passed-clause-none
returns-in-Err-Passed-clause-none g c clean gate begins =
    c.see_begin.ensures.passed (c.in-Err-Passed.is ∙ ap Err c.in-Err-Passed.field-0-is) (clean.0) gate
    (subst (λ (bs : List ℕ). Holds (g.D.Disk.seen c.args.self.now.counts.disk) 121 bs) (sym c.to_be_bytes.ensures) begins)
