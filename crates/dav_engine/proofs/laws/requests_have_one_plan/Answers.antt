use Rattle.dav_engine.proofs.OnePlanLemmas.{one_conditions, one_put_plan, one_mkcol_plan, one_delete_plan, one_unlock_plan, one_lock_plan, one_copymove_plan, one_propfind_plan, one_proppatch_plan}
use Rattle.dav_engine.proofs.laws.requests_have_one_plan.Goals as goal

pub returns : goal.returns
returns c = record { conditions = one_conditions; put = one_put_plan; mkcol = one_mkcol_plan; delete = one_delete_plan; unlock = one_unlock_plan; lock = one_lock_plan; copy_move = one_copymove_plan; propfind = one_propfind_plan; proppatch = one_proppatch_plan }
