use Rattle.dav_server.proofs.EndingLemmas.{no_lock_ends, no_lock_ends_cut}
use Rattle.dav_server.proofs.laws.isolation.no_lock_ends.Goals as goal

pub returns-clause-step : goal.returns-clause-step
returns-clause-step c = no_lock_ends

pub returns-clause-cut : goal.returns-clause-cut
returns-clause-cut c = no_lock_ends_cut
