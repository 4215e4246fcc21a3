use Rattle.dav_journal.proofs.PairLemmas.{recovers_journal}
use Rattle.dav_journal.proofs.pair.elder.see_first.Goals as goal

pub returns-in_err-begins_with-clause-stands : goal.returns-in_err-begins_with-clause-stands
returns-in_err-begins_with-clause-stands g c clean contents r = c.begins_with.ensures.stands clean (recovers_journal _ contents r)

pub returns-then-branch-clause-stands : goal.returns-then-branch-clause-stands
returns-then-branch-clause-stands g c clean contents r = c.begins_with.ensures.stands clean (recovers_journal _ contents r)

pub returns-clause-stands : goal.returns-clause-stands
returns-clause-stands g c clean contents r = c.begins_with.ensures.stands clean (recovers_journal _ contents r)
