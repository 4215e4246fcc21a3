use Rattle.dav_live.proofs.Restarts.{restarts_go_on}
use Rattle.dav_live.proofs.laws.restarts_go_on.Goals as goal

pub returns : goal.returns
returns g c = restarts_go_on g.J.Keeps.kept g.J.Keeps.has_read
