use Rattle.std.proofs.Common.{List, ℕ, replicate, subst, sym, rules}
use Rattle.std.proofs.lemmas.Result.{on_ok_weaker}
use Rattle.sqlite_disk.specs.Disk.{Holds}
use Rattle.dav_journal.proofs.FrontLemmas.{all_blank}
use Rattle.dav_journal.proofs.JournalLemmas.{also_ok}
use Rattle.dav_journal.proofs.LookLemmas.{kept_looks}
use Rattle.dav_journal.proofs.PairLemmas.{kept_recovers}
use Rattle.dav_journal.proofs.journal.Journal.drop_late_marks.Goals as goal

pub returns-then-branch-clause-unmarked : goal.returns-then-branch-clause-unmarked
returns-then-branch-clause-unmarked g c clean mixing at is =
    let held = c.in_ok-has_no_marks.ensures.blank (search rules) clean in
    all_blank _ at (subst (λ (f : List ℕ). Holds f 24 (replicate 48 0)) (sym c.has_no_marks.ensures.looks.reads.seen) held) is

pub returns-clause-kept : goal.returns-clause-kept
returns-clause-kept g c = on_ok_weaker c.clear_all.result (λ cleared contents kept. cleared (search rules) contents (kept_looks g.D.Disk c.args.self.now c.has_no_marks.new.self contents c.has_no_marks.ensures.looks kept)) c.clear_all.ensures.kept

pub returns-clause-any_moment : goal.returns-clause-any_moment
returns-clause-any_moment g c contents kept =
    c.clear_all.ensures.any_moment (search rules) contents (kept_recovers g.D.Disk c.has_no_marks.new.self contents (kept_looks g.D.Disk c.args.self.now c.has_no_marks.new.self contents c.has_no_marks.ensures.looks kept))

pub returns-clause-unmarked : goal.returns-clause-unmarked
returns-clause-unmarked g c = on_ok_weaker c.clear_all.result (λ blank clean mixing. blank) c.clear_all.ensures.blank
