use Rattle.std.proofs.Common.{refl}
use Rattle.std.specs.Option.{option_copied}
use Rattle.std.proofs.lemmas.Result.{err_from_is_err_and}
use Rattle.dav_engine.specs.CallerView.{caller_of}
use Rattle.dav_engine.proofs.CopyMoveLemmas.{free_short, free_failed, free_then, free_locked}
use Rattle.dav_engine.proofs.methods.copy_move.copy_free.Goals as goal
use Rattle.dav_engine.specs.CopyMove.{copy_free, is_move}
use Rattle.dav_engine.specs.Reach.{reaches_below}
use Rattle.dav_engine.specs.MembersView.{members_change}
use Rattle.dav_engine.proofs.ModelLemmas.{follows_for}

pub returns-in_err-verdict : goal.returns-in_err-verdict
returns-in_err-verdict g c =
    let p = err_from_is_err_and c.from_residual.result c.from_residual.ensures.1 in
    rw (p.1, p.2) (free_short c.args.job.now.method (reaches_below c.args.job.now.reach) c.args.conditions.now c.args.job.now.source.now c.args.job.now.destination.now c.args.job.now.caller.now c.args.found.now (option_copied c.args.there) _ _ refl c.if_match_get_tokens.ensures _ c.in_err-verdict.was)

pub returns-in-Err : goal.returns-in-Err
returns-in-Err g c =
    free_failed c.args.job.now.method (reaches_below c.args.job.now.reach) c.args.conditions.now c.args.job.now.source.now c.args.job.now.destination.now c.args.job.now.caller.now c.args.found.now (option_copied c.args.there) _ _ refl c.if_match_get_tokens.ensures _ _ c.in_ok-verdict.was c.in-Err.is

pub returns-then-not-are_free : goal.returns-then-not-are_free
returns-then-not-are_free g c =
    rw (← c.caller.view_is) (free_locked c.args.job.now.method (reaches_below c.args.job.now.reach) c.args.conditions.now c.args.job.now.source.now c.args.job.now.destination.now (caller_of c.caller.inside) c.args.found.now (option_copied c.args.there) _ _ refl c.if_match_get_tokens.ensures _ c.in-Ok.tokens c.deref.result.now (is_move c.args.job.now.method) c.are_free.result c.in_ok-verdict.was c.in-Ok.is c.deref.ensures.value refl c.are_free.ensures c.if-not-are_free.true)

pub returns : goal.returns
returns g c =
    follows_for (λ who. copy_free c.args.job.now.method (reaches_below c.args.job.now.reach) c.args.conditions.now c.args.job.now.source.now c.args.job.now.destination.now who c.args.found.now (option_copied c.args.there)) c.caller.view_is (free_then c.args.job.now.method (reaches_below c.args.job.now.reach) c.args.conditions.now c.args.job.now.source.now c.args.job.now.destination.now (caller_of c.caller.inside) c.args.found.now (option_copied c.args.there) _ _ refl c.if_match_get_tokens.ensures _ c.in-Ok.tokens c.deref.result.now (is_move c.args.job.now.method) c.are_free.result c.in_ok-verdict.was c.in-Ok.is c.deref.ensures.value refl c.are_free.ensures
    (members_change c.destination_members-members.result) (option_copied c.args.there) c.deref-2.result.now c.folders_free.result c.destination_members-members.ensures refl c.deref-2.ensures.value c.if-not-are_free.false c.folders_free.ensures)
