use Rattle.dav_live.proofs.OneAnswer.{restarts_change_nothing}
use Rattle.dav_live.proofs.laws.restarts_change_nothing.Goals as goal

pub returns : goal.returns
returns c = restarts_change_nothing
