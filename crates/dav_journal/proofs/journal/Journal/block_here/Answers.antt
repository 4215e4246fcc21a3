use Rattle.std.proofs.Common.{◌≡◌, ℕ, ◌<◌, ◌^◌, List, ◌∷◌, length, sym, ◌∙◌, ap, arith, rules}
use Rattle.sqlite_disk.specs.Disk.{Holds}
use Rattle.dav_journal.specs.Block.{head_of}
use Rattle.dav_journal.proofs.BlockLemmas.{no_block_read, no_block_short, no_block_told, read_block}
use Rattle.dav_journal.proofs.journal.Journal.block_here.Goals as goal

pub returns-in_default-clause-read : goal.returns-in_default-clause-read
returns-in_default-clause-read g c clean whole =
    let short = rw c.in_default.is at c.in_ok-head.ensures.head in
    no_block_short _ _ _ (omega (arith, whole, short))

pub returns-in_default-fitting-clause-read : goal.returns-in_default-fitting-clause-read
returns-in_default-fitting-clause-read g c clean whole =
    let j = c.args.self.now in
    let first = c.next_head.ensures.stays in
    let head = rw c.in-Some.is at c.in_ok-head.ensures.head in
    no_block_told j.key (g.D.Disk.seen j.disk) j.end c.in-Some.head c.fitting.result (head.2 clean) head.0
    (λ content small is within. c.fitting.ensures.none j.key j.end content small is (omega (arith, whole, within, first.end, first.len))) c.in_default-fitting.is

pub returns-then-not-branch-clause-read : goal.returns-then-not-branch-clause-read
returns-then-not-branch-clause-read g c clean whole =
    let j = c.args.self.now in
    let first = c.next_head.ensures.stays in
    let second = c.content.ensures.stays in
    let head = rw c.in-Some.is at c.in_ok-head.ensures.head in
    let held : Holds (g.D.Disk.seen j.disk) j.end c.in-Some.head = head.2 (second.reads.clean clean) in
    let found = c.in_ok-content.content.items in
    let no = c.if-not-branch.true in
    let other : c.in-Some.head ≡ 1 ∷ head_of j.key j.end found → ⊥ = λ is.
    let yes = c.in_ok-is_head.ensures.1 (is ∙ ap (λ (k : ℕ). 1 ∷ head_of k j.end found) (sym (second.key ∙ first.key)) ∙ ap (λ (p : ℕ). 1 ∷ head_of c.content.new.self.key p found) (sym (second.end ∙ first.end)) ∙ ap (λ (l : List ℕ). 1 ∷ head_of c.content.new.self.key c.content.new.self.end l) (sym c.deref.ensures.value)) in
    search (rules, yes, no) in
    no_block_read j.key (g.D.Disk.seen j.disk) j.end c.in-Some.head found c.in-Some-fitting.len c.fitting.result held head.0
    (λ content small is within. c.fitting.ensures.none j.key j.end content small is (omega (arith, whole, within, first.end, first.len)))
    c.in-Some-fitting.is c.in_ok-content.ensures.len (rw (first.reads.seen, first.end) at (c.in_ok-content.ensures.read clean)) other

pub returns-clause-read : goal.returns-clause-read
returns-clause-read g c clean whole =
    let j = c.args.self.now in
    let first = c.next_head.ensures.stays in
    let second = c.content.ensures.stays in
    let head = rw c.in-Some.is at c.in_ok-head.ensures.head in
    let held : Holds (g.D.Disk.seen j.disk) j.end c.in-Some.head = head.2 (second.reads.clean clean) in
    let found = c.in_ok-content.content.items in
    let len : length found ≡ c.in-Some-fitting.len = c.in_ok-content.ensures.len in
    let yes = c.in_ok-is_head.ensures.0 (search (rules, c.if-not-branch.false)) in
    let is : c.in-Some.head ≡ 1 ∷ head_of j.key j.end found = yes ∙ ap (λ (l : List ℕ). 1 ∷ head_of c.content.new.self.key c.content.new.self.end l) c.deref.ensures.value ∙ ap (λ (k : ℕ). 1 ∷ head_of k c.content.new.self.end found) (second.key ∙ first.key) ∙ ap (λ (p : ℕ). 1 ∷ head_of j.key p found) (second.end ∙ first.end) in
    let fits : length found < 2 ^ 64 = omega (arith, len) in
    read_block j.key (g.D.Disk.seen j.disk) j.end c.in-Some.head found fits held is (omega (arith, len, whole, c.in-Some-fitting.ensures.some, first.end, first.len))
    (λ more. rw (first.reads.seen, first.end) at (c.in_ok-content.ensures.read clean (omega (arith, len, more))))
