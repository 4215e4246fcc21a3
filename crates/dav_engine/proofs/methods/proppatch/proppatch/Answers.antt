use Rattle.std.proofs.Common.{refl}
use Rattle.dav_engine.proofs.Following.{follows_ask, follows_done}
use Rattle.dav_engine.proofs.methods.proppatch.proppatch.Goals as goal

pub returns-in-Ok : goal.returns-in-Ok
returns-in-Ok g c = follows_ask c.in-Ok.ensures.asks c.proppatch_found.ensures

pub returns-in-Err : goal.returns-in-Err
returns-in-Err g c = follows_ask c.in-Err.ensures.asks (follows_done refl)
