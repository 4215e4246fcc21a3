use Rattle.std.proofs.Common.{rules, subst, sym, ◌∙◌}
use Rattle.dav_kept.specs.Records.{RequestView}
use Rattle.dav_http.specs.Leaves.{Leaves}
use Rattle.dav_live.proofs.machine.Machine.hand_on.Goals as goal

pub returns-in-Ok-clause-same : goal.returns-in-Ok-clause-same
returns-in-Ok-clause-same c = c.in-Ok.ensures.left (subst (λ (q : RequestView). Leaves q.head c.in-Ok.told.0) (sym c.request.view_is) (c.requires c.in-Ok.told.0)) ∙ c.self.view_is

pub invariant_of-self-in-Ok : goal.invariant_of-self-in-Ok
invariant_of-self-in-Ok c =
    let left = c.in-Ok.ensures.left (subst (λ (q : RequestView). Leaves q.head c.in-Ok.told.0) (sym c.request.view_is) (c.requires c.in-Ok.told.0)) in
    search (rules, left)
