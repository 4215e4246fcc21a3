use Rattle.std.proofs.Common.{◌≡◌, ◌∷◌, [], List, ℕ, sym, subst, rules}
use Rattle.dav_journal.specs.File.{Recovers}
use Rattle.dav_journal.specs.Journal.{IsReading}
use Rattle.dav_journal.proofs.AdoptLemmas.{first_read, no_first}
use Rattle.dav_journal.proofs.PairLemmas.{reads_then, recovers_journal}
use Rattle.dav_journal.proofs.pair.adopting.begins_with.Goals as goal

pub returns-in_err-block-clause-stands : goal.returns-in_err-block-clause-stands
returns-in_err-block-clause-stands g c clean is = reads_then g.D.Disk _ _ _ (c.open.ensures.stands (c.next_block.ensures.reads.clean clean) is) c.next_block.ensures.reads

pub returns-in_default-clause-stands : goal.returns-in_default-clause-stands
returns-in_default-clause-stands g c clean is = reads_then g.D.Disk _ _ _ (c.open.ensures.stands (c.next_block.ensures.reads.clean clean) is) c.next_block.ensures.reads

pub returns-clause-stands : goal.returns-clause-stands
returns-clause-stands g c clean is = reads_then g.D.Disk _ _ _ (c.open.ensures.stands (c.next_block.ensures.reads.clean clean) is) c.next_block.ensures.reads

pub returns-in_default-clause-another : goal.returns-in_default-clause-another
returns-in_default-clause-another g c is clean blocks r =
    let before = c.next_block.ensures.reads.clean clean in
    let read = rw c.in_default.is at c.in_ok-block.ensures.read in
    let seen = (reads_then g.D.Disk _ _ _ (c.open.ensures.stands before (recovers_journal _ _ r)) c.next_block.ensures.reads).seen in
    no_first g.D.Disk c.next_block.new.self _ blocks (read clean [] (c.in_ok-open.ensures.reading before)) (subst (λ (f : List ℕ). Recovers f (c.args.former.now ∷ blocks)) (sym seen) r)

pub returns-clause-begins : goal.returns-clause-begins
returns-clause-begins g c is clean =
    let same : c.in-Some.block.items ≡ c.args.former.now = search rules in
    let read = rw c.in-Some.is at c.in_ok-block.ensures.read in
    subst (λ (b : List ℕ). IsReading g.D.Disk c.next_block.new.self (b ∷ [])) same (read clean [] (c.in_ok-open.ensures.reading (c.next_block.ensures.reads.clean clean)))

pub returns-clause-another : goal.returns-clause-another
returns-clause-another g c is clean blocks r =
    let before = c.next_block.ensures.reads.clean clean in
    let read = rw c.in-Some.is at c.in_ok-block.ensures.read in
    let seen = (reads_then g.D.Disk _ _ _ (c.open.ensures.stands before (recovers_journal _ _ r)) c.next_block.ensures.reads).seen in
    let same : c.args.former.now ≡ c.in-Some.block.items =
    first_read g.D.Disk c.next_block.new.self _ _ blocks (read clean [] (c.in_ok-open.ensures.reading before)) (subst (λ (f : List ℕ). Recovers f (c.args.former.now ∷ blocks)) (sym seen) r) in
    search rules
