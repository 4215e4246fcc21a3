use Rattle.std.proofs.Common.{◌≡◌, ◌≢◌, ◌+◌, ℕ, List, [], length, slice_index, sym, ◌∙◌, ap, subst, inl, arith, rules}
use Rattle.sqlite_disk.specs.Disk.{Torn}
use Rattle.dav_journal.specs.Journal.{Ends}
use Rattle.dav_journal.proofs.ClearLemmas.{bare_ends, behind_left, first_left, torn_blank, torn_has}
use Rattle.dav_journal.proofs.journal.Journal.shut_first.Goals as goal

pub returns-then-not-may_be_used-clause-any_moment : goal.returns-then-not-may_be_used-clause-any_moment
returns-then-not-may_be_used-clause-any_moment g c clean bare contents leaves left may = inl (leaves left may)

pub returns-in_err-read_at-clause-any_moment : goal.returns-in_err-read_at-clause-any_moment
returns-in_err-read_at-clause-any_moment g c clean bare contents leaves left may = inl (leaves left (c.read_at.ensures.crash left may))

pub returns-then-gate-ne-OPEN-clause-any_moment : goal.returns-then-gate-ne-OPEN-clause-any_moment
returns-then-gate-ne-OPEN-clause-any_moment g c clean bare contents leaves left may = inl (leaves left (c.read_at.ensures.crash left may))

pub returns-then-gate-ne-OPEN-clause-shut : goal.returns-then-gate-ne-OPEN-clause-shut
returns-then-gate-ne-OPEN-clause-shut g c clean bare =
    let j = c.args.self.now in
    let one : length c.read_at.new.buf ≡ 1 = search rules in
    let holds = c.in_ok-read_at.ensures.read clean (search rules) in
    let gate : slice_index (g.D.Disk.seen j.disk) 72 ≢ 1 = λ is. absurd (c.if-gate-ne-OPEN.true (sym (holds.each 0 (omega arith)) ∙ is)) in
    record {
      small = bare.small;
      outcomes = λ left may. subst (λ (f : List ℕ). Ends j.key [] 72 f) (sym (bare.only left (c.read_at.ensures.crash left may))) (bare_ends j.key (g.D.Disk.seen j.disk) bare.has bare.blank gate);
      place = bare.place;
      blank = λ i low. ap (λ (f : List ℕ). slice_index f (j.mark + i)) c.read_at.ensures.seen ∙ bare.blank j.mark bare.place i low;
    }

pub returns-in_err-write_at-clause-any_moment : goal.returns-in_err-write_at-clause-any_moment
returns-in_err-write_at-clause-any_moment g c clean bare contents leaves left may =
    let j = c.args.self.now in
    let one : length c.read_at.new.buf ≡ 1 = search rules in
    let holds = c.in_ok-read_at.ensures.read (c.write_at.ensures.clean clean) (search rules) in
    let gate : slice_index (g.D.Disk.seen j.disk) 72 ≡ 1 = holds.each 0 (omega arith) ∙ c.if-gate-ne-OPEN.false in
    let (before, was, step) = c.write_at.ensures.crash left may in
    first_left j.key (g.D.Disk.seen j.disk) left contents bare.small bare.has bare.blank gate (subst (λ (f : List ℕ). Torn 72 1 f left) (bare.only before (c.read_at.ensures.crash before was)) step) (leaves _ (g.met.D.Disk.seen_may_stay j.disk))

pub returns-in_err-sync-clause-any_moment : goal.returns-in_err-sync-clause-any_moment
returns-in_err-sync-clause-any_moment g c clean bare contents leaves left may =
    let j = c.args.self.now in
    let one : length c.read_at.new.buf ≡ 1 = search rules in
    let holds = c.in_ok-read_at.ensures.read (c.write_at.ensures.clean (c.sync.ensures.clean clean)) (search rules) in
    let gate : slice_index (g.D.Disk.seen j.disk) 72 ≡ 1 = holds.each 0 (omega arith) ∙ c.if-gate-ne-OPEN.false in
    let (before, was, step) = c.write_at.ensures.crash left (c.sync.ensures.crash left may) in
    first_left j.key (g.D.Disk.seen j.disk) left contents bare.small bare.has bare.blank gate (subst (λ (f : List ℕ). Torn 72 1 f left) (bare.only before (c.read_at.ensures.crash before was)) step) (leaves _ (g.met.D.Disk.seen_may_stay j.disk))

pub returns-clause-any_moment : goal.returns-clause-any_moment
returns-clause-any_moment g c clean bare contents leaves left may =
    let j = c.args.self.now in
    let one : length c.read_at.new.buf ≡ 1 = search rules in
    let holds = c.in_ok-read_at.ensures.read (c.write_at.ensures.clean (c.sync.ensures.clean clean)) (search rules) in
    let gate : slice_index (g.D.Disk.seen j.disk) 72 ≡ 1 = holds.each 0 (omega arith) ∙ c.if-gate-ne-OPEN.false in
    let (before, was, step) = c.write_at.ensures.crash left (c.sync.ensures.crash left may) in
    first_left j.key (g.D.Disk.seen j.disk) left contents bare.small bare.has bare.blank gate (subst (λ (f : List ℕ). Torn 72 1 f left) (bare.only before (c.read_at.ensures.crash before was)) step) (leaves _ (g.met.D.Disk.seen_may_stay j.disk))

pub returns-then-not-may_be_used-clause-behind : goal.returns-then-not-may_be_used-clause-behind
returns-then-not-may_be_used-clause-behind g c clean bare generation leaves left may = leaves left may

pub returns-in_err-read_at-clause-behind : goal.returns-in_err-read_at-clause-behind
returns-in_err-read_at-clause-behind g c clean bare generation leaves left may = leaves left (c.read_at.ensures.crash left may)

pub returns-then-gate-ne-OPEN-clause-behind : goal.returns-then-gate-ne-OPEN-clause-behind
returns-then-gate-ne-OPEN-clause-behind g c clean bare generation leaves left may = leaves left (c.read_at.ensures.crash left may)

pub returns-in_err-write_at-clause-behind : goal.returns-in_err-write_at-clause-behind
returns-in_err-write_at-clause-behind g c clean bare generation leaves left may =
    let j = c.args.self.now in
    let one : length c.read_at.new.buf ≡ 1 = search rules in
    let holds = c.in_ok-read_at.ensures.read (c.write_at.ensures.clean clean) (search rules) in
    let gate : slice_index (g.D.Disk.seen j.disk) 72 ≡ 1 = holds.each 0 (omega arith) ∙ c.if-gate-ne-OPEN.false in
    let (before, was, step) = c.write_at.ensures.crash left may in
    behind_left j.key generation (g.D.Disk.seen j.disk) left bare.small bare.has gate (subst (λ (f : List ℕ). Torn 72 1 f left) (bare.only before (c.read_at.ensures.crash before was)) step) (leaves _ (g.met.D.Disk.seen_may_stay j.disk))

pub returns-in_err-sync-clause-behind : goal.returns-in_err-sync-clause-behind
returns-in_err-sync-clause-behind g c clean bare generation leaves left may =
    let j = c.args.self.now in
    let one : length c.read_at.new.buf ≡ 1 = search rules in
    let holds = c.in_ok-read_at.ensures.read (c.write_at.ensures.clean (c.sync.ensures.clean clean)) (search rules) in
    let gate : slice_index (g.D.Disk.seen j.disk) 72 ≡ 1 = holds.each 0 (omega arith) ∙ c.if-gate-ne-OPEN.false in
    let (before, was, step) = c.write_at.ensures.crash left (c.sync.ensures.crash left may) in
    behind_left j.key generation (g.D.Disk.seen j.disk) left bare.small bare.has gate (subst (λ (f : List ℕ). Torn 72 1 f left) (bare.only before (c.read_at.ensures.crash before was)) step) (leaves _ (g.met.D.Disk.seen_may_stay j.disk))

pub returns-clause-behind : goal.returns-clause-behind
returns-clause-behind g c clean bare generation leaves left may =
    let j = c.args.self.now in
    let one : length c.read_at.new.buf ≡ 1 = search rules in
    let holds = c.in_ok-read_at.ensures.read (c.write_at.ensures.clean (c.sync.ensures.clean clean)) (search rules) in
    let gate : slice_index (g.D.Disk.seen j.disk) 72 ≡ 1 = holds.each 0 (omega arith) ∙ c.if-gate-ne-OPEN.false in
    let (before, was, step) = c.write_at.ensures.crash left (c.sync.ensures.crash left may) in
    behind_left j.key generation (g.D.Disk.seen j.disk) left bare.small bare.has gate (subst (λ (f : List ℕ). Torn 72 1 f left) (bare.only before (c.read_at.ensures.crash before was)) step) (leaves _ (g.met.D.Disk.seen_may_stay j.disk))

pub returns-clause-shut : goal.returns-clause-shut
returns-clause-shut g c clean bare =
    let j = c.args.self.now in
    let torn = subst (λ (f : List ℕ). Torn 72 1 f (g.D.Disk.seen c.write_at.new.self)) c.read_at.ensures.seen c.write_at.ensures.others in
    let holds = c.in_ok-write_at.ensures.written (omega arith) in
    let gate : slice_index (g.D.Disk.seen c.write_at.new.self) 72 ≢ 1 = λ is. absurd (omega (arith, is, holds.each 0 (omega arith))) in
    let file = g.D.Disk.seen c.write_at.new.self in
    let blank = torn_blank j.key (g.D.Disk.seen j.disk) file bare.has bare.blank torn in
    record {
      small = bare.small;
      outcomes = λ left may. subst (λ (f : List ℕ). Ends j.key [] 72 f) (sym (c.in_ok-sync.ensures.durable left may)) (bare_ends j.key file (torn_has j.key (g.D.Disk.seen j.disk) file bare.has torn) blank gate);
      place = bare.place;
      blank = λ i low. ap (λ (f : List ℕ). slice_index f (j.mark + i)) c.sync.ensures.seen ∙ blank j.mark bare.place i low;
    }
