use Rattle.std.proofs.Common.{◌≡◌, ◌+◌, ℕ, List, length, slice_index, sym, ◌∙◌, ap, subst, arith}
use Rattle.sqlite_disk.specs.Disk.{Cut, Torn}
use Rattle.dav_journal.specs.Journal.{Rests}
use Rattle.dav_journal.proofs.CutLemmas.{cut_front, ends_cut, ends_gate, ends_recovers, ends_rests, torn_front}
use Rattle.dav_journal.proofs.BlockLemmas.{blocks_le}
use Rattle.dav_journal.proofs.MarkLemmas.{blank_kept}
use Rattle.dav_journal.proofs.journal.Journal.level.Goals as goal

pub returns-in_default-clause-any_moment : goal.returns-in_default-clause-any_moment
returns-in_default-clause-any_moment g c contents shut left may =
    ends_recovers c.args.self.now.key contents _ left shut.small (shut.outcomes left may)

pub returns-then-not-may_be_used-clause-any_moment : goal.returns-then-not-may_be_used-clause-any_moment
returns-then-not-may_be_used-clause-any_moment g c contents shut left may =
    ends_recovers c.args.self.now.key contents _ left shut.small (shut.outcomes left may)

pub returns-in_err-set_len-clause-any_moment : goal.returns-in_err-set_len-clause-any_moment
returns-in_err-set_len-clause-any_moment g c contents shut left may =
    let j = c.args.self.now in
    let (before, was, step) = c.set_len.ensures.crash left may in
    let place : c.in-Some.end ≡ j.end + 1 = omega arith in
    ends_recovers j.key contents j.end left shut.small (ends_cut j.key contents j.end before left (shut.outcomes before was) (subst (λ (n : ℕ). Cut n before left) place step))

pub returns-in_err-sync-clause-any_moment : goal.returns-in_err-sync-clause-any_moment
returns-in_err-sync-clause-any_moment g c contents shut left may =
    let j = c.args.self.now in
    let (before, was, step) = c.set_len.ensures.crash left (c.sync.ensures.crash left may) in
    let place : c.in-Some.end ≡ j.end + 1 = omega arith in
    ends_recovers j.key contents j.end left shut.small (ends_cut j.key contents j.end before left (shut.outcomes before was) (subst (λ (n : ℕ). Cut n before left) place step))

pub returns-in_err-write_at-clause-any_moment : goal.returns-in_err-write_at-clause-any_moment
returns-in_err-write_at-clause-any_moment g c contents shut left may =
    let j = c.args.self.now in
    let place : c.in-Some.end ≡ j.end + 1 = omega arith in
    let now = shut.outcomes (g.D.Disk.seen j.disk) (g.met.D.Disk.seen_may_stay j.disk) in
    let cut = ends_cut j.key contents j.end _ (g.D.Disk.seen c.set_len.new.self) now (subst (λ (n : ℕ). Cut n (g.D.Disk.seen j.disk) (g.D.Disk.seen c.set_len.new.self)) place c.set_len.ensures.others) in
    let long : length (g.D.Disk.seen c.set_len.new.self) ≡ j.end + 1 = c.in_ok-set_len.ensures.len ∙ place in
    let (before, was, step) = c.write_at.ensures.crash left may in
    let torn = subst (λ (f : List ℕ). Torn j.end 1 f left) (c.in_ok-sync.ensures.durable before was) step in
    ends_recovers j.key contents j.end left shut.small (ends_gate j.key contents j.end _ left cut long torn)

pub returns-in_err-sync-2-clause-any_moment : goal.returns-in_err-sync-2-clause-any_moment
returns-in_err-sync-2-clause-any_moment g c contents shut left may =
    let j = c.args.self.now in
    let place : c.in-Some.end ≡ j.end + 1 = omega arith in
    let now = shut.outcomes (g.D.Disk.seen j.disk) (g.met.D.Disk.seen_may_stay j.disk) in
    let cut = ends_cut j.key contents j.end _ (g.D.Disk.seen c.set_len.new.self) now (subst (λ (n : ℕ). Cut n (g.D.Disk.seen j.disk) (g.D.Disk.seen c.set_len.new.self)) place c.set_len.ensures.others) in
    let long : length (g.D.Disk.seen c.set_len.new.self) ≡ j.end + 1 = c.in_ok-set_len.ensures.len ∙ place in
    let (before, was, step) = c.write_at.ensures.crash left (c.sync-2.ensures.crash left may) in
    let torn = subst (λ (f : List ℕ). Torn j.end 1 f left) (c.in_ok-sync.ensures.durable before was) step in
    ends_recovers j.key contents j.end left shut.small (ends_gate j.key contents j.end _ left cut long torn)

pub returns-clause-any_moment : goal.returns-clause-any_moment
returns-clause-any_moment g c contents shut left may =
    let j = c.args.self.now in
    let place : c.in-Some.end ≡ j.end + 1 = omega arith in
    let now = shut.outcomes (g.D.Disk.seen j.disk) (g.met.D.Disk.seen_may_stay j.disk) in
    let cut = ends_cut j.key contents j.end _ (g.D.Disk.seen c.set_len.new.self) now (subst (λ (n : ℕ). Cut n (g.D.Disk.seen j.disk) (g.D.Disk.seen c.set_len.new.self)) place c.set_len.ensures.others) in
    let long : length (g.D.Disk.seen c.set_len.new.self) ≡ j.end + 1 = c.in_ok-set_len.ensures.len ∙ place in
    let (before, was, step) = c.write_at.ensures.crash left (c.sync-2.ensures.crash left may) in
    let torn = subst (λ (f : List ℕ). Torn j.end 1 f left) (c.in_ok-sync.ensures.durable before was) step in
    ends_recovers j.key contents j.end left shut.small (ends_gate j.key contents j.end _ left cut long torn)

pub returns-clause-kept : goal.returns-clause-kept
returns-clause-kept g c contents shut =
    let j = c.args.self.now in
    let place : c.in-Some.end ≡ j.end + 1 = omega arith in
    let now = shut.outcomes (g.D.Disk.seen j.disk) (g.met.D.Disk.seen_may_stay j.disk) in
    let cut = ends_cut j.key contents j.end _ (g.D.Disk.seen c.set_len.new.self) now (subst (λ (n : ℕ). Cut n (g.D.Disk.seen j.disk) (g.D.Disk.seen c.set_len.new.self)) place c.set_len.ensures.others) in
    let long : length (g.D.Disk.seen c.set_len.new.self) ≡ j.end + 1 = c.in_ok-set_len.ensures.len ∙ place in
    let torn = subst (λ (f : List ℕ). Torn j.end 1 f (g.D.Disk.seen c.write_at.new.self)) c.sync.ensures.seen c.write_at.ensures.others in
    let ends = ends_gate j.key contents j.end _ (g.D.Disk.seen c.write_at.new.self) cut long torn in
    let rests = ends_rests j.key contents j.end _ ends (c.in_ok-write_at.ensures.written (omega arith)) in
    record {
      small = shut.small;
      low = omega arith;
      outcomes = λ left may. subst (λ (f : List ℕ). Rests j.key contents j.end c.in-Some.end f) (sym (c.in_ok-sync-2.ensures.durable left may)) (subst (λ (n : ℕ). Rests j.key contents j.end n (g.D.Disk.seen c.write_at.new.self)) (sym place) rests);
      place = shut.place;
      blank =
          let far = blocks_le j.key (g.D.Disk.seen j.disk) 72 contents j.end now.blocks in
          let first = cut_front (j.end + 1) j.end (g.D.Disk.seen j.disk) (g.D.Disk.seen c.set_len.new.self) (omega arith) (omega (arith, now.more)) (subst (λ (n : ℕ). Cut n (g.D.Disk.seen j.disk) (g.D.Disk.seen c.set_len.new.self)) place c.set_len.ensures.others) in
          let second = torn_front j.end 1 _ (g.D.Disk.seen c.write_at.new.self) (omega (arith, long)) torn in
          let blank = blank_kept j.end _ _ j.mark far shut.place (blank_kept j.end _ _ j.mark far shut.place shut.blank first) second in
          λ i low. ap (λ (f : List ℕ). slice_index f (j.mark + i)) c.sync-2.ensures.seen ∙ blank i low;
    }
