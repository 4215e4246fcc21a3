use Rattle.dav_engine.proofs.CopiedWorlds.{copy_leaves_copies}
use Rattle.dav_engine.proofs.laws.copy_leaves_copies.Goals as goal

pub returns : goal.returns
returns c = copy_leaves_copies
