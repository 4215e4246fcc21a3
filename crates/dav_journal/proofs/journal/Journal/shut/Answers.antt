use Rattle.std.proofs.Common.{◌≡◌, ◌≢◌, ◌+◌, ℕ, List, length, slice_index, sym, ◌∙◌, ap, subst, add-zero, arith, rules}
use Rattle.sqlite_disk.specs.Disk.{Torn}
use Rattle.dav_journal.specs.Journal.{Ends}
use Rattle.dav_journal.proofs.BlockLemmas.{blocks_le}
use Rattle.dav_journal.proofs.CutLemmas.{cleared_recovers, is_shut, shutting, torn_front, was_shut}
use Rattle.dav_journal.proofs.MarkLemmas.{blank_kept}
use Rattle.dav_journal.proofs.journal.Journal.shut.Goals as goal

pub returns-then-not-may_be_used-clause-any_moment : goal.returns-then-not-may_be_used-clause-any_moment
returns-then-not-may_be_used-clause-any_moment g c clean contents r left may = cleared_recovers g.D.Disk c.args.self.now contents left r may

pub returns-in_err-read_at-clause-any_moment : goal.returns-in_err-read_at-clause-any_moment
returns-in_err-read_at-clause-any_moment g c clean contents r left may = cleared_recovers g.D.Disk c.args.self.now contents left r (c.read_at.ensures.crash left may)

pub returns-then-gate-ne-OPEN-clause-any_moment : goal.returns-then-gate-ne-OPEN-clause-any_moment
returns-then-gate-ne-OPEN-clause-any_moment g c clean contents r left may = cleared_recovers g.D.Disk c.args.self.now contents left r (c.read_at.ensures.crash left may)

pub returns-then-gate-ne-OPEN-clause-shut : goal.returns-then-gate-ne-OPEN-clause-shut
returns-then-gate-ne-OPEN-clause-shut g c clean contents r =
    let j = c.args.self.now in
    let one : length c.read_at.new.buf ≡ 1 = search rules in
    let holds = c.in_ok-read_at.ensures.read clean (search rules) in
    let gate : slice_index (g.D.Disk.seen j.disk) j.end ≢ 1 = λ is. absurd (c.if-gate-ne-OPEN.true (sym (holds.each 0 (omega arith)) ∙ ap (slice_index (g.D.Disk.seen j.disk)) (add-zero j.end) ∙ is)) in
    record {
      small = r.read.reading.small;
      outcomes = λ left may. was_shut g.D.Disk j contents left r gate (c.read_at.ensures.crash left may);
      place = r.place;
      blank = λ i low. ap (λ (f : List ℕ). slice_index f (j.mark + i)) c.read_at.ensures.seen ∙ r.blank i low;
    }

pub returns-in_err-write_at-clause-any_moment : goal.returns-in_err-write_at-clause-any_moment
returns-in_err-write_at-clause-any_moment g c clean contents r left may =
    let j = c.args.self.now in
    let one : length c.read_at.new.buf ≡ 1 = search rules in
    let holds = c.in_ok-read_at.ensures.read (c.write_at.ensures.clean clean) (search rules) in
    let gate : slice_index (g.D.Disk.seen j.disk) j.end ≡ 1 = ap (slice_index (g.D.Disk.seen j.disk)) (sym (add-zero j.end)) ∙ holds.each 0 (omega arith) ∙ c.if-gate-ne-OPEN.false in
    let (before, was, step) = c.write_at.ensures.crash left may in
    shutting g.D.Disk j contents left r gate (subst (λ (f : List ℕ). Torn j.end 1 f left) (r.read.reading.only before (c.read_at.ensures.crash before was)) step)

pub returns-in_err-sync-clause-any_moment : goal.returns-in_err-sync-clause-any_moment
returns-in_err-sync-clause-any_moment g c clean contents r left may =
    let j = c.args.self.now in
    let one : length c.read_at.new.buf ≡ 1 = search rules in
    let holds = c.in_ok-read_at.ensures.read (c.write_at.ensures.clean (c.sync.ensures.clean clean)) (search rules) in
    let gate : slice_index (g.D.Disk.seen j.disk) j.end ≡ 1 = ap (slice_index (g.D.Disk.seen j.disk)) (sym (add-zero j.end)) ∙ holds.each 0 (omega arith) ∙ c.if-gate-ne-OPEN.false in
    let (before, was, step) = c.write_at.ensures.crash left (c.sync.ensures.crash left may) in
    shutting g.D.Disk j contents left r gate (subst (λ (f : List ℕ). Torn j.end 1 f left) (r.read.reading.only before (c.read_at.ensures.crash before was)) step)

pub returns-clause-any_moment : goal.returns-clause-any_moment
returns-clause-any_moment g c clean contents r left may =
    let j = c.args.self.now in
    let one : length c.read_at.new.buf ≡ 1 = search rules in
    let holds = c.in_ok-read_at.ensures.read (c.write_at.ensures.clean (c.sync.ensures.clean clean)) (search rules) in
    let gate : slice_index (g.D.Disk.seen j.disk) j.end ≡ 1 = ap (slice_index (g.D.Disk.seen j.disk)) (sym (add-zero j.end)) ∙ holds.each 0 (omega arith) ∙ c.if-gate-ne-OPEN.false in
    let (before, was, step) = c.write_at.ensures.crash left (c.sync.ensures.crash left may) in
    shutting g.D.Disk j contents left r gate (subst (λ (f : List ℕ). Torn j.end 1 f left) (r.read.reading.only before (c.read_at.ensures.crash before was)) step)

pub returns-clause-shut : goal.returns-clause-shut
returns-clause-shut g c clean contents r =
    let j = c.args.self.now in
    let torn = subst (λ (f : List ℕ). Torn j.end 1 f (g.D.Disk.seen c.write_at.new.self)) c.read_at.ensures.seen c.write_at.ensures.others in
    let ends = is_shut g.D.Disk j contents (g.D.Disk.seen c.write_at.new.self) r torn (c.in_ok-write_at.ensures.written (omega arith)) in
    let far = blocks_le j.key _ 72 contents j.end r.read.reading.blocks in
    let blank = blank_kept j.end (g.D.Disk.seen j.disk) (g.D.Disk.seen c.write_at.new.self) j.mark far r.place r.blank (torn_front j.end 1 _ _ (omega (arith, r.read.more)) torn) in
    record {
      small = r.read.reading.small;
      outcomes = λ left may. subst (λ (f : List ℕ). Ends j.key contents j.end f) (sym (c.in_ok-sync.ensures.durable left may)) ends;
      place = r.place;
      blank = λ i low. ap (λ (f : List ℕ). slice_index f (j.mark + i)) c.sync.ensures.seen ∙ blank i low;
    }
