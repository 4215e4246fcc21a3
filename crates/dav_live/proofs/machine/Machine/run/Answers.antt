use Rattle.std.proofs.Common.{subst, sym}
use Rattle.std.proofs.lemmas.Result.{IfOk-weaker}
use Rattle.dav_kept.specs.Records.{RequestView}
use Rattle.dav_http.specs.Leaves.{Leaves}
use Rattle.dav_live.proofs.machine.Machine.run.Goals as goal

pub returns-clause-left : goal.returns-clause-left
returns-clause-left c =
    IfOk-weaker c.ask.result _ _
    (λ reply left leaves. left (subst (λ (q : RequestView). Leaves q.head reply) (sym c.request.view_is) leaves))
    c.ask.ensures.left
