use Rattle.dav_engine.proofs.MultistatusLemmas.{last_status}
use Rattle.dav_engine.proofs.reply.multistatus.MultiError.last_error.Goals as goal

pub returns-in-Some : goal.returns-in-Some
returns-in-Some c = rw (← c.self.view_is) (last_status c.self.inside.items.items c.in-Some.item.now (rw c.deref.ensures.value at c.in-Some.ensures.value))
