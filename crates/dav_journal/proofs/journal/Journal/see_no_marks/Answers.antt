use Rattle.std.proofs.Common.{◌≡◌, ◌∙◌, List, ℕ, replicate, subst, sym, refl, inl, rules}
use Rattle.sqlite_disk.specs.Disk.{Holds}
use Rattle.dav_journal.specs.Journal.{Stays}
use Rattle.dav_journal.proofs.FrontLemmas.{all_blank}
use Rattle.dav_journal.proofs.JournalLemmas.{read_stays}
use Rattle.dav_journal.proofs.LookLemmas.{looks_stay}
use Rattle.dav_journal.proofs.MarkLemmas.{blank_mark}
use Rattle.dav_journal.proofs.journal.Journal.see_no_marks.Goals as goal

pub returns-clause-cleared : goal.returns-clause-cleared
returns-clause-cleared g c clean contents r =
    let j = c.args.self.now in
    let looks = c.has_no_marks.ensures.looks in
    let now = c.has_no_marks.new.self in
    let same = looks_stay g.D.Disk j now looks in
    let stays : Stays g.D.Disk j (record now { mark = 24 }) = record { reads = same.reads; key = same.key; end = same.end; len = same.len } in
    let held = c.in_ok-has_no_marks.ensures.blank (search rules) clean in
    let zeros : Holds (g.D.Disk.seen c.has_no_marks.new.self.disk) 24 (replicate 48 0) = subst (λ (f : List ℕ). Holds f 24 (replicate 48 0)) (sym looks.reads.seen) held in
    record {
      read = read_stays g.D.Disk j _ contents stays r;
      marks = λ at is. blank_mark _ _ at (all_blank _ at zeros is);
      place = inl refl;
      blank = all_blank _ 24 zeros (inl refl);
    }

pub returns-clause-bare : goal.returns-clause-bare
returns-clause-bare g c clean synced opened =
    let j = c.args.self.now in
    let looks = c.has_no_marks.ensures.looks in
    let held = c.in_ok-has_no_marks.ensures.blank (search rules) clean in
    let zeros : Holds (g.D.Disk.seen c.has_no_marks.new.self.disk) 24 (replicate 48 0) = subst (λ (f : List ℕ). Holds f 24 (replicate 48 0)) (sym looks.reads.seen) held in
    let same = looks_stay g.D.Disk j c.has_no_marks.new.self looks in
    record {
      small = rw same.key opened.small;
      has = rw (same.key, looks.reads.seen) (opened.outcomes _ (g.met.D.Disk.seen_may_stay j.disk));
      only = λ left may. synced left (looks.reads.crash left may) ∙ sym looks.reads.seen;
      place = inl refl;
      blank = λ at is. all_blank _ at zeros is;
    }
