use Rattle.dav_core.specs.Locks.{free, conflicting}
use Rattle.dav_store.proofs.memls.check_in.Goals as goal

pub returns-in-None : goal.returns-in-None
returns-in-None c = free c.in-None.ensures

pub returns-in-Some : goal.returns-in-Some
returns-in-Some c = conflicting c.in-Some.ensures.0 c.in-Some.ensures.1
