use Rattle.dav_engine.proofs.CopyWorld.{copymove_is_proper}
use Rattle.dav_engine.proofs.DeleteWorld.{delete_is_proper}
use Rattle.dav_engine.proofs.LockPlans.{lock_is_proper}
use Rattle.dav_engine.proofs.PropertyPlans.{propfind_is_proper, proppatch_is_proper}
use Rattle.dav_engine.proofs.PutWorld.{put_is_proper, mkcol_is_proper}
use Rattle.dav_engine.proofs.UnlockPlans.{unlock_is_proper}
use Rattle.dav_engine.proofs.WorldAnswers.{proper_plans_keep_worlds}
use Rattle.dav_engine.proofs.laws.proper_plans_keep_worlds.Goals as goal

pub returns : goal.returns
returns c = record { kept = proper_plans_keep_worlds; put = put_is_proper; mkcol = mkcol_is_proper; delete = delete_is_proper; unlock = unlock_is_proper; lock = lock_is_proper; copy_move = copymove_is_proper; propfind = propfind_is_proper; proppatch = proppatch_is_proper }
