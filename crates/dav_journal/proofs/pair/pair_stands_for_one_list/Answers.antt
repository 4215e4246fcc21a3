use Rattle.dav_journal.proofs.PairLemmas.{pair_one_list, turned}
use Rattle.dav_journal.proofs.pair.pair_stands_for_one_list.Goals as goal

pub returns-clause-one : goal.returns-clause-one
returns-clause-one c = pair_one_list

pub returns-clause-either : goal.returns-clause-either
returns-clause-either c = turned
