use Rattle.std.proofs.lemmas.Result.{IfOk-weaker}
use Rattle.dav_live.proofs.machine.Machine.read.Goals as goal

pub returns-in-Ok : goal.returns-in-Ok
returns-in-Ok c = IfOk-weaker c.left_only.result _ _ (λ reply leaves. c.in-Ok.ensures.left leaves) c.left_only.ensures
