use Rattle.dav_server.proofs.NoLostUpdate.{no_lost_update}
use Rattle.dav_server.proofs.laws.no_update_is_lost.Goals as goal

pub returns : goal.returns
returns c = no_lost_update
