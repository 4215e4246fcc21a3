use Rattle.dav_engine.proofs.PatchedWorlds.{proppatch_makes_all_or_none, refused_proppatch_leaves_all}
use Rattle.dav_engine.proofs.laws.patches_make_all_or_none.Goals as goal

pub returns : goal.returns
returns c = record { made = proppatch_makes_all_or_none; refused = refused_proppatch_leaves_all }
