use Rattle.std.proofs.Common.{Err, ap, sym, ◌∙◌, refl}
use Rattle.std.proofs.lemmas.Result.{err_from_is_err_and}
use Rattle.dav_journal.proofs.JournalLemmas.{damage_stands, ended_read, err_moved}
use Rattle.dav_journal.proofs.journal.Journal.next.Goals as goal

pub returns-in_default-clause-read : goal.returns-in_default-clause-read
returns-in_default-clause-read g c clean contents reading =
    let later = c.see_end.ensures.stays in
    let read = rw c.in_default.is at c.in_ok-content.ensures.read (later.reads.clean clean) contents reading in
    ended_read g.D.Disk _ _ contents later read c.in_ok-see_end.ensures.more (c.in_ok-see_end.ensures.unmarked clean)

pub returns-in_err-see_end-clause-damaged : goal.returns-in_err-see_end-clause-damaged
returns-in_err-see_end-clause-damaged g c place is clean mixing contents reading =
    let first = rw c.in_default.is at c.in_ok-content.ensures.stays refl in
    let later = c.see_end.ensures.stays in
    let (error, told, same) = err_from_is_err_and c.from_residual-in_err-see_end.result c.from_residual-in_err-see_end.ensures.1 in
    let both = c.in_err-see_end.ensures.damaged place (err_moved _ _ (ap Err (sym same) ∙ sym told ∙ is)) clean mixing in
    let read = rw c.in_default.is at c.in_ok-content.ensures.read (later.reads.clean clean) contents reading in
    let nothing = rw (first.reads.seen, first.key, first.end) at read.nothing in
    let damaged = rw (first.reads.seen, first.end, first.len) at both.1 in
    (both.0 ∙ first.end, λ others. damage_stands g.D.Disk c.args.self.now contents others reading nothing damaged)
