use Rattle.dav_saved.proofs.LockLaws.{locks_take}
use Rattle.dav_saved.proofs.laws.locks_are_read_whole.Goals as goal

pub returns : goal.returns
returns c = λ levels bytes w rest fits e. (locks_take levels bytes (w, rest) fits e).parts
