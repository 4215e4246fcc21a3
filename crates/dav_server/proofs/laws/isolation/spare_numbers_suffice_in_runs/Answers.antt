use Rattle.dav_server.proofs.SpareLemmas as spare
use Rattle.dav_server.proofs.laws.isolation.spare_numbers_suffice_in_runs.Goals as goal

pub returns-clause-runs : goal.returns-clause-runs
returns-clause-runs c = spare.runs_find_numbers

pub returns-clause-under : goal.returns-clause-under
returns-clause-under c = spare.spare_numbers_suffice_in_runs
