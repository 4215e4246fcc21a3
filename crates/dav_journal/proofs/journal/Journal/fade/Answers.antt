use Rattle.std.proofs.Common.{◌∙◌, List, ℕ, replicate, sym, subst, refl, arith}
use Rattle.sqlite_disk.specs.Disk.{Mixed}
use Rattle.dav_journal.specs.Elder.{IsGoing}
use Rattle.dav_journal.proofs.GoingLemmas.{Fades, front_long, going_fades, held_zeros, mixed_fades, reading_fades, written_fades}
use Rattle.dav_journal.proofs.journal.Journal.fade.Goals as goal

pub returns-then-not-may_be_used-clause-any_moment : goal.returns-then-not-may_be_used-clause-any_moment
returns-then-not-may_be_used-clause-any_moment g c mixes contents reading former blocks going left may =
    subst (λ (f : List ℕ). IsGoing former blocks f) (sym (reading.only left may)) going

pub returns-in_err-write_at-clause-any_moment : goal.returns-in_err-write_at-clause-any_moment
returns-in_err-write_at-clause-any_moment g c mixes contents reading former blocks going left may =
    let j = c.args.self.now in
    let (before, was, step) = c.write_at.ensures.mixed (mixes j.disk) (omega arith) left may in
    going_fades former blocks _ left (mixed_fades _ left (front_long j.key _ reading.front) (subst (λ (f : List ℕ). Mixed 0 (replicate 8 0) f left) (reading.only before was) step)) going

pub returns-in_err-sync-clause-any_moment : goal.returns-in_err-sync-clause-any_moment
returns-in_err-sync-clause-any_moment g c mixes contents reading former blocks going left may =
    let j = c.args.self.now in
    let (before, was, step) = c.write_at.ensures.mixed (mixes j.disk) (omega arith) left (c.sync.ensures.crash left may) in
    going_fades former blocks _ left (mixed_fades _ left (front_long j.key _ reading.front) (subst (λ (f : List ℕ). Mixed 0 (replicate 8 0) f left) (reading.only before was) step)) going

pub returns-clause-any_moment : goal.returns-clause-any_moment
returns-clause-any_moment g c mixes contents reading former blocks going left may =
    let j = c.args.self.now in
    let (before, was, step) = c.write_at.ensures.mixed (mixes j.disk) (omega arith) left (c.sync.ensures.crash left may) in
    going_fades former blocks _ left (mixed_fades _ left (front_long j.key _ reading.front) (subst (λ (f : List ℕ). Mixed 0 (replicate 8 0) f left) (reading.only before was) step)) going

pub returns-clause-going : goal.returns-clause-going
returns-clause-going g c contents reading former blocks going =
    let j = c.args.self.now in
    let file = g.D.Disk.seen c.write_at.new.self in
    let fades : Fades (g.D.Disk.seen j.disk) file = written_fades _ file (front_long j.key _ reading.front) c.write_at.ensures.others (c.in_ok-write_at.ensures.written (omega arith)) in
    subst (λ (f : List ℕ). IsGoing former blocks f) (sym c.sync.ensures.seen) (going_fades former blocks _ file fades going)

pub returns-clause-reading : goal.returns-clause-reading
returns-clause-reading g c contents reading =
    let j = c.args.self.now in
    let written = c.in_ok-write_at.ensures.written (omega arith) in
    let fades : Fades (g.D.Disk.seen j.disk) (g.D.Disk.seen c.write_at.new.self) = written_fades _ _ (front_long j.key _ reading.front) c.write_at.ensures.others written in
    let now : Fades (g.D.Disk.seen j.disk) (g.D.Disk.seen c.sync.new.self) = subst (λ (f : List ℕ). Fades (g.D.Disk.seen j.disk) f) (sym c.sync.ensures.seen) fades in (
      reading_fades g.D.Disk j (record j { disk = c.sync.new.self }) contents reading now (λ left may. c.in_ok-sync.ensures.durable left may ∙ sym c.sync.ensures.seen) refl refl refl,
      rw c.sync.ensures.seen (held_zeros _ 0 8 written),
    )
