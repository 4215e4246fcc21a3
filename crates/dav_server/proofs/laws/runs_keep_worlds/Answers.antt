use Rattle.dav_server.proofs.CutSteps.{runs_keep_worlds_cut}
use Rattle.dav_server.proofs.laws.runs_keep_worlds.Goals as goal

pub returns-clause-cut : goal.returns-clause-cut
returns-clause-cut c = runs_keep_worlds_cut c.cuts_are_like_refusals.ensures
