-- The laws of plans, as they are stated for methods.
use Rattle.dav_engine.specs.PlanLaws.{PlansAreDetermined, PlansEnd, OutOfMemoryIsARefusal, CutsAreLikeRefusals}
use Rattle.dav_engine.proofs.PlanLemmas.{ran_same, comes, ran_again, cut_again}

pub plans_are_determined : PlansAreDetermined
plans_are_determined plan old s t ls ks ms a b one u other u' = ran_same one u other u'

pub plans_end : PlansEnd
plans_end plan old ls = let end = comes plan old ls in (end.outcome, end.new, end.locks, end.ran, end.flag)

pub want_is_like_refusals : OutOfMemoryIsARefusal
want_is_like_refusals plan old new ls ms a ran = let again = ran_again ran in (again.refusals, again.ran)

pub cuts_are_like_refusals : CutsAreLikeRefusals
cuts_are_like_refusals plan old new first ls ms cut = let again = cut_again cut in (again.refusals, again.outcome, again.locks, again.ran, again.list)
