use Rattle.dav_shards.proofs.LawLemmas.{changes_stay_here, changes_stay_here_cut}
use Rattle.dav_shards.proofs.laws.changes_stay_here.Goals as goal

pub returns-clause-step : goal.returns-clause-step
returns-clause-step c = changes_stay_here

pub returns-clause-cut : goal.returns-clause-cut
returns-clause-cut c = changes_stay_here_cut
