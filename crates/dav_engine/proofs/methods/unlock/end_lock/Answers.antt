use Rattle.std.proofs.Common.{ap, ◌∙◌}
use Rattle.std.specs.Option.{option_map}
use Rattle.std.proofs.lemmas.Result.{err_from_is_err_and}
use Rattle.dav_engine.proofs.UnlockLemmas.{end_short, end_nowhere, end_unknown, end_known}
use Rattle.dav_engine.proofs.methods.unlock.end_lock.Goals as goal

pub returns-in_err-reply-clause-follows : goal.returns-in_err-reply-clause-follows
returns-in_err-reply-clause-follows g c =
    let p = err_from_is_err_and c.from_residual.result c.from_residual.ensures.1 in
    rw (c.in-Some.is, p.1, p.2) (end_short c.args.path.now c.args.token.now c.metadata.result c.metadata.ensures.asks)

pub returns-in_default-clause-follows : goal.returns-in_default-clause-follows
returns-in_default-clause-follows g c =
    end_nowhere c.args.path.now c.args.token.now c.metadata.result c.metadata.ensures.asks (ap (option_map g.L.DavLockSystem.locks) c.in_default.is)

pub returns-in-Ok-clause-follows : goal.returns-in-Ok-clause-follows
returns-in-Ok-clause-follows g c =
    rw c.in-Some.is (end_known c.args.path.now c.args.token.now c.metadata.result c.metadata.ensures.asks _ _ c.in-Ok.ensures.ok (c.as_ref.ensures.value ∙ c.ok-found.ensures.value) c.in_ok-reply.ensures)

pub returns-in-Err-clause-follows : goal.returns-in-Err-clause-follows
returns-in-Err-clause-follows g c =
    rw c.in-Some.is (end_unknown c.args.path.now c.args.token.now c.metadata.result c.metadata.ensures.asks c.in-Err.ensures.err.0 c.in-Err.ensures.err.1)
