use Rattle.std.proofs.Common.{subst}
use Rattle.dav_server.specs.Server.{Server}
use Rattle.dav_http.specs.Steps.{IsStepFor}
use Rattle.dav_seen.proofs.reading.ask.Goals as goal

pub returns-clause-same : goal.returns-clause-same
returns-clause-same c = c.in_ok-reply.ensures.left (c.leaves.ensures.0 c.if-not-leaves.false)

pub returns-clause-step : goal.returns-clause-step
returns-clause-step c =
    subst (λ (s : Server). IsStepFor c.args.head.now c.args.body c.args.caller.now c.args.handler.now.server c.in_ok-reply.reply s)
    (c.in_ok-reply.ensures.left (c.leaves.ensures.0 c.if-not-leaves.false)) c.in_ok-reply.ensures.step
