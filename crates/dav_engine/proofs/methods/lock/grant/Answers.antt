use Rattle.std.proofs.Common.{ap, sym, ◌∙◌}
use Rattle.std.specs.Option.{option_map}
use Rattle.dav_core.specs.Locks.{Lock, new_lock}
use Rattle.dav_engine.proofs.GrantFollows.{grant_nowhere, grant_answered, grant_refused, grant_ran_out}
use Rattle.dav_engine.proofs.methods.lock.grant.Goals as goal

pub returns-in_default-clause-sets : goal.returns-in_default-clause-sets
returns-in_default-clause-sets g c = grant_nowhere c.args.lock.now (ap (option_map g.L.DavLockSystem.locks) c.in_default.is)

pub returns-in-None-clause-sets : goal.returns-in-None-clause-sets
returns-in-None-clause-sets g c =
    let same = (λ i. new_lock (c.deref.ensures i) c.lock.inside.path (c.as_deref.ensures.value i) (c.as_ref.ensures.value i) c.lock.inside.timeout c.lock.inside.shared c.lock.inside.deep c.args.now)
    ∙ ap (λ (l : Lock). new_lock l.token l.path l.principal l.owner l.timeout l.shared l.deep c.args.now) c.lock.view_is ∙ ap (λ t. record c.args.lock.now { timeout_at = t }) (sym c.requires.end) in
    rw c.in-Some.is (grant_answered c.args.lock.now _ c.lock-granted.result same (sym c.refusal.ensures ∙ c.in-None.is) c.lock-granted.ensures.ok)

pub returns-in-Some-Conflict-clause-sets : goal.returns-in-Some-Conflict-clause-sets
returns-in-Some-Conflict-clause-sets g c =
    let same = (λ i. new_lock (c.deref.ensures i) c.lock.inside.path (c.as_deref.ensures.value i) (c.as_ref.ensures.value i) c.lock.inside.timeout c.lock.inside.shared c.lock.inside.deep c.args.now)
    ∙ ap (λ (l : Lock). new_lock l.token l.path l.principal l.owner l.timeout l.shared l.deep c.args.now) c.lock.view_is ∙ ap (λ t. record c.args.lock.now { timeout_at = t }) (sym c.requires.end) in
    rw c.in-Some.is (grant_refused c.args.lock.now _ c.lock-granted.result c.in-Some-Conflict.field-0 same (sym c.refusal.ensures ∙ c.in-Some-Conflict.is) c.in-Some-Conflict.field-0-is c.lock-granted.ensures.err c.lock-granted.ensures.same)

pub returns-in-Some-Memory-clause-sets : goal.returns-in-Some-Memory-clause-sets
returns-in-Some-Memory-clause-sets g c =
    let same = (λ i. new_lock (c.deref.ensures i) c.lock.inside.path (c.as_deref.ensures.value i) (c.as_ref.ensures.value i) c.lock.inside.timeout c.lock.inside.shared c.lock.inside.deep c.args.now)
    ∙ ap (λ (l : Lock). new_lock l.token l.path l.principal l.owner l.timeout l.shared l.deep c.args.now) c.lock.view_is ∙ ap (λ t. record c.args.lock.now { timeout_at = t }) (sym c.requires.end) in
    rw c.in-Some.is (grant_ran_out c.args.lock.now c.lock-granted.result c.in-Some-Memory.field-0 (sym c.refusal.ensures ∙ c.in-Some-Memory.is) c.lock-granted.ensures.same)
