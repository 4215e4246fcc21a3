use Rattle.dav_engine.proofs.TakingLemmas.{gathered_err, gathered_ok}
use Rattle.dav_engine.proofs.davinner.DavInner.handle_propfind.Goals as goal

pub returns-in-Ok-clause-serves : goal.returns-in-Ok-clause-serves
returns-in-Ok-clause-serves g c = gathered_ok c.gathered.ensures (rw c.in-Ok.is at c.handle_propfind_to.ensures.serves)

pub returns-in-Err-clause-serves : goal.returns-in-Err-clause-serves
returns-in-Err-clause-serves g c = gathered_err (rw c.in-Err.is at c.handle_propfind_to.ensures.serves)
