use Rattle.dav_confined.proofs.StepsConfined.{runs_leave_others, steps_keep_other_locks, steps_leave_others, steps_leave_others_cut}
use Rattle.dav_confined.proofs.laws.confined.requests_change_what_they_name.Goals as goal

pub returns-clause-step : goal.returns-clause-step
returns-clause-step c = steps_leave_others

pub returns-clause-cut : goal.returns-clause-cut
returns-clause-cut c = steps_leave_others_cut

pub returns-clause-locks : goal.returns-clause-locks
returns-clause-locks c = steps_keep_other_locks

pub returns-clause-run : goal.returns-clause-run
returns-clause-run c = runs_leave_others
