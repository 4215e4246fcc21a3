use Rattle.dav_journal.proofs.OneLemmas.{one_recovered}
use Rattle.dav_journal.proofs.journal.stands_for_one_list.Goals as goal

pub returns : goal.returns
returns c = one_recovered
