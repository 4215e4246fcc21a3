use Rattle.dav_saved.proofs.LockLaws.{locks_again}
use Rattle.dav_saved.proofs.laws.locks_are_read_again.Goals as goal

pub returns : goal.returns
returns c = locks_again
