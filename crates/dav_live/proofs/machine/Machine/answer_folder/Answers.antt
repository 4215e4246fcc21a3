use Rattle.std.proofs.Common.{inr}
use Rattle.std.proofs.lemmas.Result.{IfOk-weaker}
use Rattle.dav_live.proofs.machine.Machine.answer_folder.Goals as goal

pub returns : goal.returns
returns c = IfOk-weaker c.answer_with.result _ _ (λ effect done. (c.in_ok-show.ensures.same, inr done.0)) c.answer_with.ensures
