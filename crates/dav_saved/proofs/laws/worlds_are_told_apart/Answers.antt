use Rattle.dav_saved.proofs.WorldLaws.{worlds_apart}
use Rattle.dav_saved.proofs.laws.worlds_are_told_apart.Goals as goal

pub returns : goal.returns
returns c = worlds_apart
