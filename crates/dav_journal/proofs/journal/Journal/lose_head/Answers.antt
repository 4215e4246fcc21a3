use Rattle.std.proofs.Common.{◌≡◌, ◌∙◌, List, ℕ, replicate, sym, subst, ap, rules, arith}
use Rattle.sqlite_disk.specs.Disk.{Mixed}
use Rattle.dav_journal.specs.Elder.{IsGoing, elder_head}
use Rattle.dav_journal.proofs.ElderLemmas.{one_elder_key, zero_digests}
use Rattle.dav_journal.proofs.GoingLemmas.{loses, lost_going}
use Rattle.dav_journal.proofs.journal.Journal.lose_head.Goals as goal

pub returns-then-eq-clause-any_moment : goal.returns-then-eq-clause-any_moment
returns-then-eq-clause-any_moment g c mixes contents reading none blocks going left may =
    subst (λ (f : List ℕ). IsGoing c.args.former.now blocks f) (sym (reading.only left may)) going

pub returns-then-not-may_be_used-clause-any_moment : goal.returns-then-not-may_be_used-clause-any_moment
returns-then-not-may_be_used-clause-any_moment g c mixes contents reading none blocks going left may =
    subst (λ (f : List ℕ). IsGoing c.args.former.now blocks f) (sym (reading.only left may)) going

pub returns-in_err-write_at-clause-any_moment : goal.returns-in_err-write_at-clause-any_moment
returns-in_err-write_at-clause-any_moment g c mixes contents reading none blocks going left may =
    let j = c.args.self.now in
    let (before, was, step) = c.write_at.ensures.mixed (mixes j.disk) (omega arith) left may in
    loses c.args.former.now blocks _ left none going (subst (λ (f : List ℕ). Mixed 24 (replicate 16 0) f left) (reading.only before was) step)

pub returns-in_err-sync-clause-any_moment : goal.returns-in_err-sync-clause-any_moment
returns-in_err-sync-clause-any_moment g c mixes contents reading none blocks going left may =
    let j = c.args.self.now in
    let (before, was, step) = c.write_at.ensures.mixed (mixes j.disk) (omega arith) left (c.sync.ensures.crash left may) in
    loses c.args.former.now blocks _ left none going (subst (λ (f : List ℕ). Mixed 24 (replicate 16 0) f left) (reading.only before was) step)

pub returns-clause-any_moment : goal.returns-clause-any_moment
returns-clause-any_moment g c mixes contents reading none blocks going left may =
    let j = c.args.self.now in
    let (before, was, step) = c.write_at.ensures.mixed (mixes j.disk) (omega arith) left (c.sync.ensures.crash left may) in
    loses c.args.former.now blocks _ left none going (subst (λ (f : List ℕ). Mixed 24 (replicate 16 0) f left) (reading.only before was) step)

pub returns-clause-lost : goal.returns-clause-lost
returns-clause-lost g c contents reading none blocks going =
    let j = c.args.self.now in
    let written = c.in_ok-write_at.ensures.written (omega arith) in
    let both = lost_going c.args.former.now blocks _ (g.D.Disk.seen c.write_at.new.self) none going c.write_at.ensures.others written
    (λ key small there zeros.
    let same : key ≡ j.key = one_elder_key _ key j.key small reading.small there reading.front.key_there in
    let head : c.elder_head_bytes-head.result ≡ elder_head key 16 c.args.former.now = c.elder_head_bytes-head.ensures ∙ ap (λ (k : ℕ). elder_head k 16 c.args.former.now) (sym same) in
    let is = zero_digests key c.args.former.now c.elder_head_bytes-head.result head zeros in
    search (rules, is, c.if-eq.false)) in
    rw c.sync.ensures.seen both
