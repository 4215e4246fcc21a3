use Rattle.std.proofs.Common.{refl}
use Rattle.dav_engine.proofs.Following.{follows_done, follows_ask}
use Rattle.dav_engine.proofs.methods.put.seek.Goals as goal

pub returns-in_default : goal.returns-in_default
returns-in_default g c ls = rw c.in_default.is (follows_done refl)

pub returns-in-Ok : goal.returns-in-Ok
returns-in-Ok g c ls = rw c.in-Some.is (follows_ask c.in-Ok.ensures.asks (follows_done refl))

pub returns-in-Err : goal.returns-in-Err
returns-in-Err g c ls = rw c.in-Some.is (follows_ask c.in-Err.ensures.asks (follows_done refl))
