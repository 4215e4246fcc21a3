use Rattle.dav_engine.proofs.PutWorld.{creates_only, create_only_leaves_all}
use Rattle.dav_engine.proofs.laws.creates_only.Goals as goal

pub returns : goal.returns
returns c = record { nothing = creates_only; kept = create_only_leaves_all }
