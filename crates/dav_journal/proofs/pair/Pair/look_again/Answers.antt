use Rattle.std.proofs.Common.{◌≡◌, ℕ, List, arith, refl, slice_index, subst}
use Rattle.std.proofs.lemmas.Result.{on_ok_weaker}
use Rattle.std.specs.Int.{w64, to_be_bytes}
use Rattle.sqlite_disk.specs.Disk.{Holds}
use Rattle.dav_journal.proofs.JournalLemmas.{stays_same, stays_then}
use Rattle.dav_journal.proofs.LookLemmas.{looks_stay, read_pair_stays}
use Rattle.dav_journal.proofs.pair.Pair.look_again.Goals as goal

pub returns-in_err-see_same_end-clause-read : goal.returns-in_err-see_same_end-clause-read
returns-in_err-see_same_end-clause-read g c contents read =
    let p = c.args.self.now in
    read_pair_stays g.D.Disk p (record p { counts = c.see_same_end.new.self }) contents c.see_same_end.ensures.stays (stays_same g.D.Disk p.spare) refl read

pub returns-then-len-eq-START-clause-read : goal.returns-then-len-eq-START-clause-read
returns-then-len-eq-START-clause-read g c contents read =
    let p = c.args.self.now in
    read_pair_stays g.D.Disk p (record p { counts = c.see_same_end.new.self; spare = c.see_same_end-then-len-eq-START.new.self }) contents
    c.see_same_end.ensures.stays c.see_same_end-then-len-eq-START.ensures.stays refl read

pub returns-then-len-eq-START-clause-same : goal.returns-then-len-eq-START-clause-same
returns-then-len-eq-START-clause-same g c = on_ok_weaker c.see_same_end-then-len-eq-START.result (λ unmarked clean. record {
  unmarked = c.in_ok-see_same_end.ensures.unmarked (clean.0);
  first = λ some. absurd (some (omega (arith, c.see_same_end.ensures.stays.end, c.len.ensures, c.if-len-eq-START.true)));
  other = λ none. unmarked (clean.1);
}) c.see_same_end-then-len-eq-START.ensures.unmarked

pub returns-clause-read : goal.returns-clause-read
returns-clause-read g c contents read =
    let p = c.args.self.now in
    let counts = stays_then g.D.Disk p.counts c.see_same_end.new.self c.see_begin.new.self c.see_same_end.ensures.stays (looks_stay g.D.Disk c.see_same_end.new.self c.see_begin.new.self c.see_begin.ensures.looks) in
    read_pair_stays g.D.Disk p (record p { counts = c.see_begin.new.self }) contents counts (stays_same g.D.Disk p.spare) refl read

pub returns-clause-same : goal.returns-clause-same
returns-clause-same g c = on_ok_weaker c.see_begin.result (λ first clean. record {
  unmarked = c.in_ok-see_same_end.ensures.unmarked (c.see_begin.ensures.looks.reads.clean (clean.0));
  first = λ some. subst (λ (f : List ℕ). (slice_index f 72 ≡ 1) × Holds f 121 (to_be_bytes w64 c.args.self.now.generation)) c.see_same_end.ensures.stays.reads.seen
      (subst (λ (bs : List ℕ). (slice_index (g.D.Disk.seen c.see_same_end.new.self.disk) 72 ≡ 1) × Holds (g.D.Disk.seen c.see_same_end.new.self.disk) 121 bs) c.to_be_bytes.ensures (first (clean.0)));
  other = λ none. absurd (c.if-len-eq-START.false (omega (arith, c.see_same_end.ensures.stays.end, c.len.ensures, none)));
}) c.see_begin.ensures.first
