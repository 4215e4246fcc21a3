use Rattle.std.proofs.Common.{◌≡◌, OnErr, sym, subst}
use Rattle.std.specs.Option.{option_copied, option_map}
use Rattle.std.proofs.lemmas.Result.{err_from_is_err_and}
use Rattle.dav_core.specs.Path.{names}
use Rattle.dav_engine.specs.OnHandler.{caller_in}
use Rattle.dav_engine.specs.Folder.{location_found}
use Rattle.dav_engine.proofs.LockLemmas.{refresh_as, again_ends, again_given}
use Rattle.dav_engine.proofs.LockPlans.{only_token}
use Rattle.dav_engine.proofs.LookWorlds.{looks_keep_world}
use Rattle.dav_engine.proofs.ModelLemmas.{follows_to, sets_for}
use Rattle.dav_engine.proofs.davinner.DavInner.lock_again.Goals as goal

pub returns-in_err-token-clause-plan : goal.returns-in_err-token-clause-plan
returns-in_err-token-clause-plan g c =
    let p = err_from_is_err_and c.from_residual.result c.from_residual.ensures.1 in
    let kept = c.in_err-token.ensures.lent.locks in
    rw (p.1, p.2) (follows_to (sym kept) (again_ends c.args.headers.now c.args.path.now (location_found (option_copied c.args.found) c.args.request.now.path) (caller_in c.args.self.now) _ (follows_to kept c.in_err-token.ensures.plan)))

pub returns-clause-plan : goal.returns-clause-plan
returns-clause-plan g c =
    let lent = c.in_ok-token.ensures.lent in
    let held = lent.locks in
    let one = follows_to lent.locks c.in_ok-token.ensures.plan in
    let now = lent.moment in
    let two = refresh_as (names c.args.path.now) c.deref.ensures c.refreshed_for-timeout.ensures now (sets_for held c.refresh-lock.ensures.sets) in
    again_given c.args.headers.now c.args.path.now (location_found (option_copied c.args.found) c.args.request.now.path) (caller_in c.args.self.now) c.in_ok-token.token one
    c.refresh-lock.result c.refreshed.result two
    (subst (λ ls. OnErr c.refresh-lock.result (option_map g.L.DavLockSystem.locks c.refresh-lock.new.ls ≡ ls)) held c.refresh-lock.ensures.same) c.refreshed.ensures.ok c.refreshed.ensures.err

pub returns-in_err-token-clause-world : goal.returns-in_err-token-clause-world
returns-in_err-token-clause-world g c =
    looks_keep_world (only_token c.args.headers.now (names c.args.path.now) (caller_in c.args.self.now)) c.in_err-token.ensures.plan

pub returns-clause-world : goal.returns-clause-world
returns-clause-world g c =
    looks_keep_world (only_token c.args.headers.now (names c.args.path.now) (caller_in c.args.self.now)) c.in_ok-token.ensures.plan
