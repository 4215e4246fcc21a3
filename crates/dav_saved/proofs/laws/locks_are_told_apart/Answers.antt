use Rattle.dav_saved.proofs.LockLaws.{locks_apart}
use Rattle.dav_saved.proofs.laws.locks_are_told_apart.Goals as goal

pub returns : goal.returns
returns c = locks_apart
