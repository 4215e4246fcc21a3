use Rattle.std.proofs.Common.{◌≡◌, ◌≢◌, [], Err, ap, ◌∙◌, sym}
use Rattle.std.proofs.lemmas.Result.{IfOk-weaker}
use Rattle.dav_journal.proofs.LookLemmas.{first_of}
use Rattle.dav_journal.proofs.PairLemmas.{ends_first, later_stands}
use Rattle.dav_journal.proofs.pair.Pair.follow.Goals as goal

pub returns-then-len-eq-START-clause-read : goal.returns-then-len-eq-START-clause-read
returns-then-len-eq-START-clause-read g c clean contents reading =
    let p = c.args.self.now in
    let none : contents ≡ [] = ends_first p.counts.key p.generation (g.D.Disk.seen p.counts.disk) contents p.counts.end reading.reading.blocks (sym c.len.ensures ∙ c.if-len-eq-START.true) in
    record { reading = reading; all = λ some. absurd (some none) }

pub returns-in-Err-Damaged-clause-read : goal.returns-in-Err-Damaged-clause-read
returns-in-Err-Damaged-clause-read g c = IfOk-weaker c.see_missing.result _ _ (λ block none clean contents reading.
    let p = c.args.self.now in
    let (gate, begins) = first_of g.D.Disk p contents (λ here. c.if-len-eq-START.false (c.len.ensures ∙ here)) reading in
    absurd (none clean (rw c.next_whole.ensures.reads.seen gate) (rw c.next_whole.ensures.reads.seen begins))) c.see_missing.ensures.none

pub returns-in-Err-Damaged-clause-damaged : goal.returns-in-Err-Damaged-clause-damaged
returns-in-Err-Damaged-clause-damaged g c other is clean contents reading =
    let same = c.see_missing.ensures.place other is in
    let cleaned = c.see_missing.ensures.looks.counts.reads.clean (clean.0) in
    let (placed, nothing) = c.next_whole.ensures.damaged c.in-Err-Damaged.place (c.in-Err-Damaged.is ∙ ap Err c.in-Err-Damaged.field-0-is) cleaned _ reading.reading in
    let far : c.args.self.now.counts.end ≢ 72 = λ here. c.if-len-eq-START.false (c.len.ensures ∙ here) in
    (same ∙ placed, λ others stands. let (blocks, r) = later_stands g.D.Disk c.args.self.now contents others far reading stands in nothing blocks r)
