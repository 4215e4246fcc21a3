use Rattle.dav_saved.proofs.WorldLaws.{world_takes}
use Rattle.dav_saved.proofs.laws.worlds_are_read_whole.Goals as goal

pub returns : goal.returns
returns c = λ levels bytes w rest fits e. (world_takes levels bytes (w, rest) fits e).parts
