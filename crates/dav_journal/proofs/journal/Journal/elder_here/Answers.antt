use Rattle.std.proofs.Common.{◌≡◌, ℕ, List, length, sym, ◌∙◌, ap, arith, rules}
use Rattle.sqlite_disk.specs.Disk.{Holds}
use Rattle.dav_journal.specs.Elder.{elder_head}
use Rattle.dav_journal.proofs.ElderLemmas.{no_elder_read, no_elder_short, no_elder_told, read_elder}
use Rattle.dav_journal.proofs.journal.Journal.elder_here.Goals as goal

pub returns-in_default-clause-read : goal.returns-in_default-clause-read
returns-in_default-clause-read g c clean whole =
    let short = rw c.in_default.is at c.in_ok-head.ensures.head in
    no_elder_short _ _ _ (omega (arith, whole, short))

pub returns-in_default-elder_fitting-clause-read : goal.returns-in_default-elder_fitting-clause-read
returns-in_default-elder_fitting-clause-read g c clean whole =
    let j = c.args.self.now in
    let first = c.next_elder_head.ensures.stays in
    let head = rw c.in-Some.is at c.in_ok-head.ensures.head in
    no_elder_told j.key (g.D.Disk.seen j.disk) j.end c.in-Some.head c.elder_fitting.result (head.2 clean) head.0
    (λ content some small is within. c.elder_fitting.ensures.none j.key j.end content some small is (omega (arith, whole, within, first.end, first.len))) c.in_default-elder_fitting.is

pub returns-then-ne-clause-read : goal.returns-then-ne-clause-read
returns-then-ne-clause-read g c clean whole =
    let j = c.args.self.now in
    let first = c.next_elder_head.ensures.stays in
    let second = c.elder_content.ensures.stays in
    let head = rw c.in-Some.is at c.in_ok-head.ensures.head in
    let held : Holds (g.D.Disk.seen j.disk) j.end c.in-Some.head = head.2 (second.reads.clean clean) in
    let found = c.in_ok-content.content.items in
    let other : c.in-Some.head ≡ elder_head j.key j.end found → ⊥ = λ is.
    let same : c.in-Some.head ≡ c.elder_head_bytes.result = is ∙ ap (λ (k : ℕ). elder_head k j.end found) (sym (second.key ∙ first.key)) ∙ ap (λ (p : ℕ). elder_head c.elder_content.new.self.key p found) (sym (second.end ∙ first.end)) ∙ ap (λ (l : List ℕ). elder_head c.elder_content.new.self.key c.elder_content.new.self.end l) (sym c.deref.ensures.value) ∙ sym c.elder_head_bytes.ensures in
    search (rules, same, c.if-ne.true) in
    no_elder_read j.key (g.D.Disk.seen j.disk) j.end c.in-Some.head found c.in-Some-elder_fitting.len c.elder_fitting.result held head.0
    (λ content some small is within. c.elder_fitting.ensures.none j.key j.end content some small is (omega (arith, whole, within, first.end, first.len)))
    c.in-Some-elder_fitting.is c.in_ok-content.ensures.len (rw (first.reads.seen, first.end) at (c.in_ok-content.ensures.read clean c.in-Some-elder_fitting.ensures.some)) other

pub returns-clause-read : goal.returns-clause-read
returns-clause-read g c clean whole =
    let j = c.args.self.now in
    let first = c.next_elder_head.ensures.stays in
    let second = c.elder_content.ensures.stays in
    let head = rw c.in-Some.is at c.in_ok-head.ensures.head in
    let held : Holds (g.D.Disk.seen j.disk) j.end c.in-Some.head = head.2 (second.reads.clean clean) in
    let found = c.in_ok-content.content.items in
    let len : length found ≡ c.in-Some-elder_fitting.len = c.in_ok-content.ensures.len in
    let yes : c.in-Some.head ≡ c.elder_head_bytes.result = search (rules, c.if-ne.false) in
    let is : c.in-Some.head ≡ elder_head j.key j.end found = yes ∙ c.elder_head_bytes.ensures ∙ ap (λ (l : List ℕ). elder_head c.elder_content.new.self.key c.elder_content.new.self.end l) c.deref.ensures.value ∙ ap (λ (k : ℕ). elder_head k c.elder_content.new.self.end found) (second.key ∙ first.key) ∙ ap (λ (p : ℕ). elder_head j.key p found) (second.end ∙ first.end) in
    read_elder j.key (g.D.Disk.seen j.disk) j.end c.in-Some.head found (omega (arith, len, c.in-Some-elder_fitting.ensures.some)) (omega (arith, len, c.in-Some-elder_fitting.ensures.small)) held is
    (rw (first.reads.seen, first.end) at (c.in_ok-content.ensures.read clean c.in-Some-elder_fitting.ensures.some))
