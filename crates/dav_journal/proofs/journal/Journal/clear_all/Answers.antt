use Rattle.std.proofs.Common.{List, ℕ, replicate, subst, sym, refl, inl, arith}
use Rattle.sqlite_disk.specs.Disk.{Holds, Only}
use Rattle.dav_journal.proofs.BlockLemmas.{blocks_le}
use Rattle.dav_journal.proofs.FrontLemmas.{all_blank, cleared_left, fade_rests, read_cleared, zeros_fade}
use Rattle.dav_journal.proofs.MarkLemmas.{blank_mark, torn_others}
use Rattle.dav_journal.specs.Journal.{HasFront}
use Rattle.dav_journal.specs.Mark.{KeepsOthers}
use Rattle.dav_journal.proofs.ClearLemmas.{cleared_behind, others_has}
use Rattle.dav_journal.proofs.journal.Journal.clear_all.Goals as goal

pub returns-in_err-write_at-clause-any_moment : goal.returns-in_err-write_at-clause-any_moment
returns-in_err-write_at-clause-any_moment g c mixing contents leaves left may =
    let (before, was, step) = c.write_at.ensures.mixed mixing (omega arith) left may in
    cleared_left 24 48 before left contents (omega arith) (omega arith) (leaves before was) step

pub returns-in_err-sync-clause-any_moment : goal.returns-in_err-sync-clause-any_moment
returns-in_err-sync-clause-any_moment g c mixing contents leaves left may =
    let (before, was, step) = c.write_at.ensures.mixed mixing (omega arith) left (c.sync.ensures.crash left may) in
    cleared_left 24 48 before left contents (omega arith) (omega arith) (leaves before was) step

pub returns-clause-any_moment : goal.returns-clause-any_moment
returns-clause-any_moment g c mixing contents leaves left may =
    let (before, was, step) = c.write_at.ensures.mixed mixing (omega arith) left (c.sync.ensures.crash left may) in
    cleared_left 24 48 before left contents (omega arith) (omega arith) (leaves before was) step

pub returns-in_err-write_at-clause-behind : goal.returns-in_err-write_at-clause-behind
returns-in_err-write_at-clause-behind g c mixing generation leaves left may =
    let (before, was, step) = c.write_at.ensures.mixed mixing (omega arith) left may in
    cleared_behind generation before left (leaves before was) step

pub returns-in_err-sync-clause-behind : goal.returns-in_err-sync-clause-behind
returns-in_err-sync-clause-behind g c mixing generation leaves left may =
    let (before, was, step) = c.write_at.ensures.mixed mixing (omega arith) left (c.sync.ensures.crash left may) in
    cleared_behind generation before left (leaves before was) step

pub returns-clause-behind : goal.returns-clause-behind
returns-clause-behind g c mixing generation leaves left may =
    let (before, was, step) = c.write_at.ensures.mixed mixing (omega arith) left (c.sync.ensures.crash left may) in
    cleared_behind generation before left (leaves before was) step

pub returns-clause-cleared : goal.returns-clause-cleared
returns-clause-cleared g c contents r =
    let j = c.args.self.now in
    let far = blocks_le j.key _ 72 contents j.end r.reading.blocks in
    let others = torn_others 24 48 (g.D.Disk.seen j.disk) (g.D.Disk.seen c.write_at.new.self) (omega arith) (omega arith) (omega (arith, far, r.more)) c.write_at.ensures.others in
    let kept : KeepsOthers (g.D.Disk.seen j.disk) (g.D.Disk.seen c.sync.new.self) = subst (λ (f : List ℕ). KeepsOthers (g.D.Disk.seen j.disk) f) (sym c.sync.ensures.seen) others in
    let zeros : Holds (g.D.Disk.seen c.sync.new.self) 24 (replicate 48 0) = subst (λ (f : List ℕ). Holds f 24 (replicate 48 0)) (sym c.sync.ensures.seen) (c.in_ok-write_at.ensures.written (omega arith)) in
    let only : Only (g.D.Disk.seen c.sync.new.self) (g.D.Disk.may_leave c.sync.new.self) = subst (λ (f : List ℕ). Only f (g.D.Disk.may_leave c.sync.new.self)) (sym c.sync.ensures.seen) c.in_ok-sync.ensures.durable in
    read_cleared g.D.Disk j _ contents r kept only refl refl refl (λ at is. blank_mark _ _ at (all_blank _ at zeros is)) (inl refl) (all_blank _ 24 zeros (inl refl))

pub returns-clause-bare : goal.returns-clause-bare
returns-clause-bare g c opened =
    let j = c.args.self.now in
    let was = opened.outcomes _ (g.met.D.Disk.seen_may_stay j.disk) in
    let others = torn_others 24 48 (g.D.Disk.seen j.disk) (g.D.Disk.seen c.write_at.new.self) (omega arith) (omega arith) (omega (arith, was.more)) c.write_at.ensures.others in
    let zeros : Holds (g.D.Disk.seen c.sync.new.self) 24 (replicate 48 0) = subst (λ (f : List ℕ). Holds f 24 (replicate 48 0)) (sym c.sync.ensures.seen) (c.in_ok-write_at.ensures.written (omega arith)) in
    let only : Only (g.D.Disk.seen c.sync.new.self) (g.D.Disk.may_leave c.sync.new.self) = subst (λ (f : List ℕ). Only f (g.D.Disk.may_leave c.sync.new.self)) (sym c.sync.ensures.seen) c.in_ok-sync.ensures.durable in
    record {
      small = opened.small;
      has = subst (λ (f : List ℕ). HasFront j.key f) (sym c.sync.ensures.seen) (others_has j.key _ _ others was);
      only = only;
      place = inl refl;
      blank = λ at is. all_blank _ at zeros is;
    }

pub returns-clause-kept : goal.returns-clause-kept
returns-clause-kept g c mixing contents kept =
    let j = c.args.self.now in
    let zeros : Holds (g.D.Disk.seen c.sync.new.self) 24 (replicate 48 0) = subst (λ (f : List ℕ). Holds f 24 (replicate 48 0)) (sym c.sync.ensures.seen) (c.in_ok-write_at.ensures.written (omega arith)) in
    record {
      small = kept.small;
      low = kept.low;
      outcomes = λ left may.
          let (before, was, step) = c.write_at.ensures.mixed mixing (omega arith) left (c.sync.ensures.crash left may) in
          let rests = kept.outcomes before was in
          let long = blocks_le j.key before 72 contents j.end rests.blocks in
          fade_rests j.key contents j.end j.zeros before left rests (zeros_fade 24 48 before left (omega arith) (omega arith) (omega (arith, long, rests.some, rests.within)) step);
      place = inl refl;
      blank = all_blank _ 24 zeros (inl refl);
    }

pub returns-clause-blank : goal.returns-clause-blank
returns-clause-blank g c at is =
    let zeros : Holds (g.D.Disk.seen c.sync.new.self) 24 (replicate 48 0) = subst (λ (f : List ℕ). Holds f 24 (replicate 48 0)) (sym c.sync.ensures.seen) (c.in_ok-write_at.ensures.written (omega arith)) in
    all_blank _ at zeros is
