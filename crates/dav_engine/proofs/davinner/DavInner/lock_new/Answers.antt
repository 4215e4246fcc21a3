use Rattle.std.proofs.Common.{sym, ap, ◌∙◌}
use Rattle.std.specs.Option.{option_copied}
use Rattle.std.proofs.lemmas.Result.{err_from_is_err_and}
use Rattle.dav_engine.specs.OnHandler.{caller_in}
use Rattle.dav_engine.specs.Folder.{location_found}
use Rattle.dav_engine.specs.Lock.{empty_opening}
use Rattle.dav_engine.specs.LockHeaders.{LockHeaders}
use Rattle.dav_engine.proofs.GrantFollows.{new_ends, new_short, new_given, given_memory, news_as, some_copied}
use Rattle.dav_engine.proofs.LockPlans.{only_asked}
use Rattle.dav_engine.proofs.LookWorlds.{looks_keep_world}
use Rattle.dav_engine.proofs.ModelLemmas.{follows_to}
use Rattle.dav_engine.proofs.davinner.DavInner.lock_new.Goals as goal

pub returns-in_err-lock-clause-plan : goal.returns-in_err-lock-clause-plan
returns-in_err-lock-clause-plan g c =
    let p = err_from_is_err_and c.from_residual.result c.from_residual.ensures.1 in
    let kept = c.in_err-lock.ensures.lent.locks in
    rw (p.1, p.2) (follows_to (sym kept) (new_ends c.args.headers.now c.args.path.now (location_found (option_copied c.args.found) c.args.request.now.path) c.args.body.now (caller_in c.args.self.now) (option_copied c.args.found) _ (follows_to kept c.in_err-lock.ensures.plan)))

pub returns-in_err-reply-clause-plan : goal.returns-in_err-reply-clause-plan
returns-in_err-reply-clause-plan g c =
    let p = err_from_is_err_and c.from_residual-in_err-reply.result c.from_residual-in_err-reply.ensures.1 in
    let kept = c.in_ok-lock.ensures.lent.locks in
    rw (p.1, p.2) (follows_to (sym kept) (new_short c.args.headers.now c.args.path.now (location_found (option_copied c.args.found) c.args.request.now.path) c.args.body.now (caller_in c.args.self.now) (option_copied c.args.found) c.in_ok-lock.lock (follows_to kept c.in_ok-lock.ensures.plan)))

pub returns-clause-plan : goal.returns-clause-plan
returns-clause-plan g c =
    let lent = c.in_ok-lock.ensures.lent in
    let held = lent.locks in
    let one = follows_to lent.locks c.in_ok-lock.ensures.plan in
    let how = ap (λ (h : LockHeaders). empty_opening h.conditions) c.headers.view_is in
    let now = lent.moment in
    let there = c.is_some.ensures ∙ sym (some_copied c.args.found) in
    let two = news_as how now there held c.grant_new-granted.ensures.grants in
    new_given c.args.headers.now c.args.path.now (location_found (option_copied c.args.found) c.args.request.now.path) c.args.body.now (caller_in c.args.self.now) (option_copied c.args.found) c.in_ok-lock.lock one
    c.in_ok-reply.reply c.grant_new-granted.result c.given.result c.given.ensures.ok c.given.ensures.err c.in_ok-reply.ensures c.in_ok-lock.ensures.path two

pub returns-clause-memory : goal.returns-clause-memory
returns-clause-memory g c short =
    let kept = c.grant_new-granted.ensures.memory (given_memory c.grant_new-granted.result c.given.result c.given.ensures.err short) in
    let lent = c.in_ok-lock.ensures.lent in
    record { fs = lent.fs; ls = lent.ls; allow = lent.allow; moment = lent.moment; caller = lent.caller; locks = kept.1 ∙ lent.locks }

pub returns-clause-world : goal.returns-clause-world
returns-clause-world g c short =
    let kept = c.grant_new-granted.ensures.memory (given_memory c.grant_new-granted.result c.given.result c.given.ensures.err short) in
    ap (λ s. s.world) kept.0
    ∙ looks_keep_world (only_asked c.args.headers.now c.args.path.now c.args.body.now (caller_in c.args.self.now) (option_copied c.args.found)) c.in_ok-lock.ensures.plan

pub returns-in_err-lock-clause-world : goal.returns-in_err-lock-clause-world
returns-in_err-lock-clause-world g c memory =
    looks_keep_world (only_asked c.args.headers.now c.args.path.now c.args.body.now (caller_in c.args.self.now) (option_copied c.args.found)) c.in_err-lock.ensures.plan

pub returns-in_err-reply-clause-world : goal.returns-in_err-reply-clause-world
returns-in_err-reply-clause-world g c memory =
    looks_keep_world (only_asked c.args.headers.now c.args.path.now c.args.body.now (caller_in c.args.self.now) (option_copied c.args.found)) c.in_ok-lock.ensures.plan
