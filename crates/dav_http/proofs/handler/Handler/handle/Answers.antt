use Rattle.std.proofs.Common.{None, Some, subst, sym}
use Rattle.dav_engine.specs.Reply.{Reply}
use Rattle.dav_engine.specs.Taking.{grown_tree, opened_tree}
use Rattle.dav_http.specs.Leaves.{Leaves}
use Rattle.dav_http.specs.Steps.{IsStepFor}
use Rattle.dav_http.proofs.HandingLemmas.{whole_leaves}
use Rattle.dav_http.proofs.handler.Handler.handle.Goals as goal

pub returns-in-Ok-clause-step : goal.returns-in-Ok-clause-step
returns-in-Ok-clause-step c =
    let parts = c.in-Ok.ensures.step in
    subst (λ (r : Reply). IsStepFor c.args.head.now c.args.body c.args.caller.now c.args.self.now.server r c.handle_to.new.self.server) (sym (c.gathered.ensures parts.whole parts.handed)) parts.step

pub returns-in-Ok-clause-left : goal.returns-in-Ok-clause-left
returns-in-Ok-clause-left c leaves =
    let parts = c.in-Ok.ensures.step in
    c.in-Ok.ensures.left (whole_leaves opened_tree grown_tree None parts.whole _ _ parts.handed c.args.head.now (subst (Leaves c.args.head.now) (c.gathered.ensures parts.whole parts.handed) leaves))
