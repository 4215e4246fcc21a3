use Rattle.std.proofs.Common.{◌≡◌, ◌≢◌, ◌++◌, ◌∷◌, [], List, ℕ, MatchOption, ◌∙◌, sym, subst}
use Rattle.std.proofs.lemmas.Result.{IfOk-weaker}
use Rattle.dav_journal.specs.Journal.{IsReading}
use Rattle.dav_journal.specs.Block.{AreBlocks}
use Rattle.dav_journal.specs.Pair.{HasReadPair, IsReadingPair, with_generation}
use Rattle.dav_journal.proofs.PairLemmas.{ends_first, ends_later, later_stands, match_weaker}
use Rattle.dav_journal.proofs.pair.Pair.next.Goals as goal

pub returns-then-len-eq-START-clause-read : goal.returns-then-len-eq-START-clause-read
returns-then-len-eq-START-clause-read g c = IfOk-weaker c.first.result _ _ (λ block first clean contents reading.
    let p = c.args.self.now in
    let none : contents ≡ [] = ends_first p.counts.key p.generation (g.D.Disk.seen p.counts.disk) contents p.counts.end reading.reading.blocks (sym c.len.ensures ∙ c.if-len-eq-START.true) in
    subst (λ (xs : List (List ℕ)). MatchOption block (HasReadPair g.D.Disk c.first.new.self xs) (λ b. IsReadingPair g.D.Disk c.first.new.self (xs ++ b.items ∷ []))) (sym none)
    (first clean (subst (λ (xs : List (List ℕ)). IsReadingPair g.D.Disk p xs) none reading))) c.first.ensures.read

pub returns-then-len-eq-START-clause-damaged : goal.returns-then-len-eq-START-clause-damaged
returns-then-len-eq-START-clause-damaged g c place is clean mixing contents reading =
    let p = c.args.self.now in
    let none : contents ≡ [] = ends_first p.counts.key p.generation (g.D.Disk.seen p.counts.disk) contents p.counts.end reading.reading.blocks (sym c.len.ensures ∙ c.if-len-eq-START.true) in
    c.first.ensures.damaged place is clean mixing (subst (λ (xs : List (List ℕ)). IsReadingPair g.D.Disk p xs) none reading)

pub returns-clause-read : goal.returns-clause-read
returns-clause-read g c = IfOk-weaker c.next.result _ _ (λ block next clean contents reading.
    let p = c.args.self.now in
    let far : p.counts.end ≢ 72 = λ here. c.if-len-eq-START.false (c.len.ensures ∙ here) in
    match_weaker block (λ read. record {
      small = reading.small;
      read = read;
      spare = reading.spare;
      none = λ none. absurd (far (sym (subst (λ (xs : List (List ℕ)). AreBlocks p.counts.key (g.D.Disk.seen p.counts.disk) 72 (with_generation p.generation xs) p.counts.end) none reading.reading.blocks)));
    }) (λ b more. record {
      small = reading.small;
      reading = subst (λ (xs : List (List ℕ)). IsReading g.D.Disk c.next.new.self xs) (ends_later p.counts.key p.generation (g.D.Disk.seen p.counts.disk) contents b.items p.counts.end reading.reading.blocks far) more;
      spare = reading.spare;
    }) (next (clean.0) _ reading.reading)) c.next.ensures.read

pub returns-clause-damaged : goal.returns-clause-damaged
returns-clause-damaged g c place is clean mixing contents reading =
    let (placed, nothing) = c.next.ensures.damaged place is (clean.0) (mixing.0) _ reading.reading in
    let p = c.args.self.now in
    let far : p.counts.end ≢ 72 = λ here. c.if-len-eq-START.false (c.len.ensures ∙ here) in
    (placed, λ others stands. let (blocks, r) = later_stands g.D.Disk p contents others far reading stands in nothing blocks r)
