use Rattle.dav_confined.proofs.GrantedLemmas.{locks_of_others_stand, locks_stay_outside_grants, runs_stay_in_grants, writes_stay_in_grants, writes_stay_in_grants_cut}
use Rattle.dav_confined.proofs.laws.granted.writes_stay_in_grants.Goals as goal

pub returns-clause-step : goal.returns-clause-step
returns-clause-step c = writes_stay_in_grants

pub returns-clause-cut : goal.returns-clause-cut
returns-clause-cut c = writes_stay_in_grants_cut

pub returns-clause-locks : goal.returns-clause-locks
returns-clause-locks c = locks_stay_outside_grants

pub returns-clause-run : goal.returns-clause-run
returns-clause-run c = runs_stay_in_grants

pub returns-clause-others : goal.returns-clause-others
returns-clause-others c = locks_of_others_stand
