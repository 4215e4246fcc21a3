use Rattle.dav_engine.proofs.MovedWorlds.{move_leaves_moved}
use Rattle.dav_engine.proofs.laws.move_leaves_moved.Goals as goal

pub returns : goal.returns
returns c = move_leaves_moved
