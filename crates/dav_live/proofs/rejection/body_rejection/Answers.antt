use Rattle.std.proofs.Common.{Err, List, Ok, ℕ, subst, sym, ◌∙◌}
use Rattle.dav_server.specs.Method.{GivesServed}
use Rattle.dav_live.specs.Rejections.{bodiless, unserved}
use Rattle.dav_live.proofs.RejectionLemmas.{decided_not, not_served}
use Rattle.dav_live.proofs.rejection.body_rejection.Goals as goal

pub returns-in-Err : goal.returns-in-Err
returns-in-Err c = unserved (not_served c.args.head.now.method c.in-Err.field-0 (subst (λ (m : List ℕ). GivesServed m (Err c.in-Err.field-0)) c.method.ensures c.in-Err.ensures))

pub returns-in-Ok : goal.returns-in-Ok
returns-in-Ok c =
    bodiless c.in-Ok.method (subst (λ (m : List ℕ). GivesServed m (Ok c.in-Ok.method)) c.method.ensures c.in-Ok.ensures) (sym c.takes_body.ensures ∙ c.if-not-takes_body.true)
    (decided_not c.states_at_most.result c.states_at_most.ensures c.if-not-states_at_most.true)
