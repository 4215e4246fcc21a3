use Rattle.dav_server.proofs.GetLemmas.{opened_as}
use Rattle.dav_server.proofs.handle_gethead.open.Goals as goal

pub returns : goal.returns
returns g c = opened_as c.read-options.ensures c.open.ensures
