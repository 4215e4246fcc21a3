use Rattle.dav_journal.proofs.PairLemmas.{pair_read_stays}
use Rattle.dav_kept.proofs.over_journal.PairKeeps.rest.Goals as goal

pub returns-in_err-rest-clause-read : goal.returns-in_err-rest-clause-read
returns-in_err-rest-clause-read g c = pair_read_stays g.D.Disk _ _ c.rest.ensures.stays

pub returns-clause-read : goal.returns-clause-read
returns-clause-read g c = pair_read_stays g.D.Disk _ _ c.rest.ensures.stays
