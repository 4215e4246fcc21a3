use Rattle.dav_server.proofs.StrangerLemmas.{no_lock_is_passed, no_lock_is_passed_cut}
use Rattle.dav_server.proofs.laws.isolation.no_lock_is_passed.Goals as goal

pub returns-clause-step : goal.returns-clause-step
returns-clause-step c = no_lock_is_passed

pub returns-clause-cut : goal.returns-clause-cut
returns-clause-cut c = no_lock_is_passed_cut
