use Rattle.std.proofs.Common.{◌∙◌}
use Rattle.std.proofs.lemmas.Result.{IfOk-weaker}
use Rattle.dav_journal.proofs.JournalLemmas.{reading_stays}
use Rattle.dav_journal.proofs.journal.Journal.next_whole.Goals as goal

pub returns-clause-read : goal.returns-clause-read
returns-clause-read g c = IfOk-weaker c.next_here.result _ _ (λ block read clean contents reading.
    let cleaned = c.next_here.ensures.reads.clean clean in
    let here = c.in_ok-measure.ensures.read cleaned contents (reading_stays g.D.Disk _ _ contents c.last_mark.ensures.stays reading) in
    let last = c.in_ok-last.ensures.last (c.measure.ensures.reads.clean cleaned) in
    read clean contents here (rw (c.measure.ensures.reads.seen, c.last_mark.ensures.stays.reads.seen) last)) c.next_here.ensures.read

pub returns-clause-damaged : goal.returns-clause-damaged
returns-clause-damaged g c place is clean contents reading =
    let stays = c.last_mark.ensures.stays in
    let cleaned = c.next_here.ensures.reads.clean clean in
    let here = c.in_ok-measure.ensures.read cleaned contents (reading_stays g.D.Disk _ _ contents stays reading) in
    let last = c.in_ok-last.ensures.last (c.measure.ensures.reads.clean cleaned) in
    let (placed, nothing) = c.next_here.ensures.damaged place is clean contents here c.in_ok-last.ensures.place (rw (c.measure.ensures.reads.seen, stays.reads.seen) last) in
    (placed ∙ c.measure.ensures.place ∙ stays.end, rw (c.measure.ensures.reads.seen, stays.reads.seen) at nothing)
