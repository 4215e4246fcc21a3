use Rattle.std.proofs.Common.{◌≡◌, ◌∷◌, [], List, ℕ, subst, rules}
use Rattle.dav_journal.specs.Elder.{IsReadingElder}
use Rattle.dav_journal.proofs.pair.elder.begins_with_elder.Goals as goal

pub returns-clause-begins : goal.returns-clause-begins
returns-clause-begins g c is clean =
    let same : c.in-Some.block.items ≡ c.args.former.now = search rules in
    let read = rw c.in-Some.is at c.in_ok-block.ensures.read in
    subst (λ (b : List ℕ). IsReadingElder g.D.Disk c.next_elder.new.self (b ∷ [])) same (read clean [] (c.in_ok-open_elder.ensures.reading (search rules) (c.next_elder.ensures.reads.clean clean)))
