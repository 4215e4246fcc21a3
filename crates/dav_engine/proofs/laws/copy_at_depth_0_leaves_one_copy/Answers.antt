use Rattle.dav_engine.proofs.OneCopy.{copy_leaves_one}
use Rattle.dav_engine.proofs.laws.copy_at_depth_0_leaves_one_copy.Goals as goal

pub returns : goal.returns
returns c = copy_leaves_one
