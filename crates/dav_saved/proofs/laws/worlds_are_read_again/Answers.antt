use Rattle.dav_saved.proofs.WorldLaws.{world_again}
use Rattle.dav_saved.proofs.laws.worlds_are_read_again.Goals as goal

pub returns : goal.returns
returns c = world_again
