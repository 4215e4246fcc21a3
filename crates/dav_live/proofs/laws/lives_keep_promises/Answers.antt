use Rattle.dav_live.proofs.LifePromises.{lives_keep_promises}
use Rattle.dav_live.proofs.laws.lives_keep_promises.Goals as goal

pub returns : goal.returns
returns c = lives_keep_promises
