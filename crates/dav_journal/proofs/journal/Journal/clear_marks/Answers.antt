use Rattle.std.proofs.Common.{◌<◌, ◌^◌, List, ℕ, subst, sym, arith}
use Rattle.std.proofs.lemmas.Result.{on_ok_weaker}
use Rattle.sqlite_disk.specs.Disk.{Holds}
use Rattle.dav_journal.specs.Block.{twice}
use Rattle.dav_journal.proofs.JournalLemmas.{read_stays}
use Rattle.dav_journal.proofs.MarkLemmas.{held_mark}
use Rattle.dav_journal.proofs.journal.Journal.clear_marks.Goals as goal

pub returns-then-not-mixes-clause-cleared : goal.returns-then-not-mixes-clause-cleared
returns-then-not-mixes-clause-cleared g c =
    on_ok_weaker c.see_no_marks.result (λ cleared clean contents r. cleared clean contents (read_stays g.D.Disk _ _ contents c.last_mark.ensures.stays r)) c.see_no_marks.ensures.cleared

pub returns-then-number-eq0-clause-cleared : goal.returns-then-number-eq0-clause-cleared
returns-then-number-eq0-clause-cleared g c =
    on_ok_weaker c.clear_all.result (λ cleared clean contents r. cleared contents (read_stays g.D.Disk _ _ contents c.last_mark.ensures.stays r)) c.clear_all.ensures.cleared

pub clear_others-requires : goal.clear_others-requires
clear_others-requires g c = c.in_ok-place.ensures.place

pub returns-clause-cleared : goal.returns-clause-cleared
returns-clause-cleared g c = on_ok_weaker c.clear_others.result (λ cleared clean contents r.
    let stays = c.last_mark.ensures.stays in
    let last = c.in_ok-place.ensures.last (c.clear_others.ensures.clean clean) in
    let mid = c.last_mark.new.self in
    let read = read_stays g.D.Disk _ mid contents stays r in
    let small : c.in_ok-place.number < 2 ^ 64 = omega arith in
    let held : Holds (g.D.Disk.seen mid.disk) c.in_ok-place.place (twice c.in_ok-place.number) = subst (λ (f : List ℕ). Holds f c.in_ok-place.place (twice c.in_ok-place.number)) (sym stays.reads.seen) (last.some (omega (arith, c.if-number-eq0.false))) in
    cleared contents read (held_mark (g.D.Disk.seen mid.disk) mid.end c.in_ok-place.place c.in_ok-place.number small (read.unmarked c.in_ok-place.place c.in_ok-place.ensures.place c.in_ok-place.number small held) held)) c.clear_others.ensures.cleared
