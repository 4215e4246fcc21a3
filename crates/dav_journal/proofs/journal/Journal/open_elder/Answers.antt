use Rattle.std.proofs.Common.{◌≡◌, ◌∙◌, List, ℕ, length, codes, sym, subst, ap, refl, rules, arith}
use Rattle.std.specs.Int.{w64, to_be_bytes}
use Rattle.sqlite_disk.specs.Disk.{Holds}
use Rattle.dav_journal.specs.Mark.{IsFaint}
use Rattle.dav_journal.proofs.ElderLemmas.{faint_found, faint_there}
use Rattle.dav_journal.proofs.journal.Journal.open_elder.Goals as goal

pub returns-then-len-lt-FIRST-clause-another : goal.returns-then-len-lt-FIRST-clause-another
returns-then-len-lt-FIRST-clause-another g c is clean key front long =
    absurd (omega (arith, long, c.in_ok-len.ensures.len clean, ap length c.sync.ensures.seen, c.if-len-lt-FIRST.true))

pub returns-then-not-is_faint-clause-another : goal.returns-then-not-is_faint-clause-another
returns-then-not-is_faint-clause-another g c is clean key front long =
    let seen = c.len.ensures.seen ∙ c.sync.ensures.seen in
    let held : Holds (g.D.Disk.seen c.args.self.now.disk) 0 c.read_at.new.buf = subst (λ (f : List ℕ). Holds f 0 c.read_at.new.buf) seen (c.in_ok-read_at.ensures.read clean (search rules)) in
    let yes = c.is_faint.ensures.1 (faint_found _ 0 c.read_at.new.buf (codes "vuldarg1") held (search rules) front.version) in
    search (rules, yes, c.if-not-is_faint.true)

pub returns-clause-reading : goal.returns-clause-reading
returns-clause-reading g c is clean =
    let file = g.D.Disk.seen c.args.self.now.disk in
    let last = g.D.Disk.seen c.read_at-2.new.self in
    let seen : last ≡ file = c.read_at-2.ensures.seen ∙ c.read_at.ensures.seen ∙ c.len.ensures.seen ∙ c.sync.ensures.seen in
    let before = c.read_at-2.ensures.clean clean in
    let first : Holds file 0 c.read_at.new.buf = subst (λ (f : List ℕ). Holds f 0 c.read_at.new.buf) (c.len.ensures.seen ∙ c.sync.ensures.seen) (c.in_ok-read_at.ensures.read before (search rules)) in
    let second : Holds file 8 c.read_at-2.new.buf = subst (λ (f : List ℕ). Holds f 8 c.read_at-2.new.buf) (c.read_at.ensures.seen ∙ c.len.ensures.seen ∙ c.sync.ensures.seen) (c.in_ok-read_at-2.ensures.read clean (search rules)) in
    let faint : IsFaint c.read_at.new.buf 0 (codes "vuldarg1") = c.is_faint.ensures.0 (search (rules, c.if-not-is_faint.false)) in
    let key : c.read_at-2.new.buf ≡ to_be_bytes w64 c.in-Some.key = c.in-Some.ensures in
    record {
      small = omega arith;
      front = record {
        version = rw seen (faint_there file 0 c.read_at.new.buf (codes "vuldarg1") first (search rules) faint);
        key_there = rw seen (subst (λ (bs : List ℕ). Holds file 8 bs) key second);
      };
      blocks = refl;
      only = λ left may. c.in_ok-sync.ensures.durable left (c.len.ensures.crash left (c.read_at.ensures.crash left (c.read_at-2.ensures.crash left may))) ∙ sym seen;
      whole = ap length (c.read_at-2.ensures.seen ∙ c.read_at.ensures.seen ∙ c.len.ensures.seen) ∙ sym (c.in_ok-len.ensures.len (c.read_at.ensures.clean before));
    }
