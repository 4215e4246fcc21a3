use Rattle.std.proofs.Common.{refl, ap, ◌∙◌}
use Rattle.std.proofs.lemmas.Result.{err_from_is_err_and}
use Rattle.dav_core.specs.Path.{names}
use Rattle.dav_core.specs.Locks.{Lock}
use Rattle.dav_engine.specs.LockView.{not_granted, on_what_is_there, on_a_new_file}
use Rattle.dav_engine.proofs.GrantFollows.{opens_as}
use Rattle.dav_engine.proofs.methods.lock.grant_new.Goals as goal

pub returns-in_err-grant-clause-grants : goal.returns-in_err-grant-clause-grants
returns-in_err-grant-clause-grants g c =
    let p = err_from_is_err_and c.from_residual.result c.from_residual.ensures.1 in
    rw (p.1, p.2) (not_granted _ refl c.in_err-grant.ensures.sets c.in_err-grant.ensures.same refl)

pub returns-then-found-clause-grants : goal.returns-then-found-clause-grants
returns-then-found-clause-grants g c = on_what_is_there refl c.if-found.true c.in_ok-grant.ensures.sets refl

pub returns-clause-grants : goal.returns-clause-grants
returns-clause-grants g c =
    let token = c.deref.ensures ∙ ap (λ (l : Lock). l.token) c.lock.view_is in
    let path = ap (λ (l : Lock). names l.path) c.lock.view_is in
    on_a_new_file _ c.if-found.false c.in_ok-grant.ensures.sets (opens_as c.empty_opening-options.ensures token path refl c.open_empty.ensures.ran)
