use Rattle.std.proofs.Common.{refl}
use Rattle.dav_engine.proofs.Following.{follows_done}
use Rattle.dav_engine.proofs.conditions.if_holds.Goals as goal

pub returns-in-None : goal.returns-in-None
returns-in-None g c = rw c.in-None.is (follows_done refl)
