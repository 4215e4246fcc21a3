use Rattle.std.proofs.Common.{sym, ap, ◌∙◌}
use Rattle.std.proofs.lemmas.Result.{err_from_is_err_and}
use Rattle.std.specs.Option.{option_copied, is_some}
use Rattle.dav_core.specs.Path.{names}
use Rattle.dav_engine.specs.OnHandler.{caller_in}
use Rattle.dav_engine.specs.Asker.{asker_of, caller_at}
use Rattle.dav_engine.specs.Conditions.{if_match_get_tokens}
use Rattle.dav_engine.specs.Put.{PutHeaders, put_allowed}
use Rattle.dav_engine.specs.MembersView.{members_change}
use Rattle.dav_engine.proofs.PutGuardLemmas.{put_unplaced, put_short, put_failed, put_locked, put_other_length, put_agreed}
use Rattle.dav_engine.proofs.ModelLemmas.{follows_for, follows_lent}
use Rattle.dav_engine.proofs.davinner.DavInner.may_put.Goals as goal

pub returns-in_err-writing-clause-plan : goal.returns-in_err-writing-clause-plan
returns-in_err-writing-clause-plan g c =
    let p = err_from_is_err_and c.from_residual.result c.from_residual.ensures.1 in
    rw (p.1, p.2) (follows_lent g.L.DavLockSystem.locks _ c.as_ref-ls.ensures.value (put_unplaced c.args.request.now.method c.args.headers.now (names c.args.request.now.path) (caller_in c.args.self.now) c.args.bytes.now _ _ _ _
    c.metadata.ensures.asks (c.as_ref.ensures.value ∙ c.ok-found.ensures.value) c.writing_of.ensures c.in_err-writing.was))

pub returns-in_err-tokens-clause-plan : goal.returns-in_err-tokens-clause-plan
returns-in_err-tokens-clause-plan g c =
    let p = err_from_is_err_and c.from_residual-in_err-tokens.result c.from_residual-in_err-tokens.ensures.1 in
    rw (p.1, p.2) (follows_lent g.L.DavLockSystem.locks _ c.as_ref-ls.ensures.value (put_short c.args.request.now.method c.args.headers.now (names c.args.request.now.path) (caller_in c.args.self.now) c.args.bytes.now _ _ _ c.in_ok-writing.writing _ _ _
    c.metadata.ensures.asks (c.as_ref.ensures.value ∙ c.ok-found.ensures.value) c.writing_of.ensures c.in_ok-writing.was
    (c.as_ref-2.ensures.value ∙ c.ok-found.ensures.value) c.in_err-tokens.was (follows_for (λ (h : PutHeaders). if_match_get_tokens c.args.request.now.method h.conditions (option_copied c.as_ref-2.result)) c.headers.view_is c.if_match_get_tokens.ensures)))

pub returns-in-Err-clause-plan : goal.returns-in-Err-clause-plan
returns-in-Err-clause-plan g c =
    follows_lent g.L.DavLockSystem.locks _ c.as_ref-ls.ensures.value (put_failed c.args.request.now.method c.args.headers.now (names c.args.request.now.path) (caller_in c.args.self.now) c.args.bytes.now _ _ _ c.in_ok-writing.writing _ _ _ _
    c.metadata.ensures.asks (c.as_ref.ensures.value ∙ c.ok-found.ensures.value) c.writing_of.ensures c.in_ok-writing.was
    (c.as_ref-2.ensures.value ∙ c.ok-found.ensures.value) c.in_ok-tokens.was c.in-Err.is (follows_for (λ (h : PutHeaders). if_match_get_tokens c.args.request.now.method h.conditions (option_copied c.as_ref-2.result)) c.headers.view_is c.if_match_get_tokens.ensures))

pub returns-in_err-member_allowed-clause-plan : goal.returns-in_err-member_allowed-clause-plan
returns-in_err-member_allowed-clause-plan g c =
    let p = err_from_is_err_and c.from_residual-in_err-member_allowed.result c.from_residual-in_err-member_allowed.ensures.1 in
    rw (p.1, p.2) (follows_lent g.L.DavLockSystem.locks _ c.as_ref-ls.ensures.value (follows_for (λ who. put_allowed c.args.request.now.method c.args.headers.now (names c.args.request.now.path) (caller_at c.args.self.now.moment who) c.args.bytes.now) c.asker.view_is (
    put_locked c.args.request.now.method c.args.headers.now (names c.args.request.now.path) (caller_at c.args.self.now.moment (asker_of c.asker.inside)) c.args.bytes.now _ _ _ c.in_ok-writing.writing _ _ _ c.in-Ok.tokens c.deref.result.now (members_change c.when_made.result) _ _
    c.metadata.ensures.asks (c.as_ref.ensures.value ∙ c.ok-found.ensures.value) c.writing_of.ensures c.in_ok-writing.was
    (c.as_ref-2.ensures.value ∙ c.ok-found.ensures.value) c.in_ok-tokens.was c.in-Ok.is (follows_for (λ (h : PutHeaders). if_match_get_tokens c.args.request.now.method h.conditions (option_copied c.as_ref-2.result)) c.headers.view_is c.if_match_get_tokens.ensures)
    c.when_made.ensures (c.as_ref-3.ensures.value ∙ c.ok-found.ensures.value) c.deref.ensures.value c.in_err-member_allowed.ensures)))

pub returns-then-not-is_announced-clause-plan : goal.returns-then-not-is_announced-clause-plan
returns-then-not-is_announced-clause-plan g c =
    follows_lent g.L.DavLockSystem.locks _ c.as_ref-ls.ensures.value (follows_for (λ who. put_allowed c.args.request.now.method c.args.headers.now (names c.args.request.now.path) (caller_at c.args.self.now.moment who) c.args.bytes.now) c.asker.view_is (
    put_other_length c.args.request.now.method c.args.headers.now (names c.args.request.now.path) (caller_at c.args.self.now.moment (asker_of c.asker.inside)) c.args.bytes.now _ _ _ c.in_ok-writing.writing _ _ _ c.in-Ok.tokens c.deref.result.now (members_change c.when_made.result) _ c.is_announced.result
    c.metadata.ensures.asks (c.as_ref.ensures.value ∙ c.ok-found.ensures.value) c.writing_of.ensures c.in_ok-writing.was
    (c.as_ref-2.ensures.value ∙ c.ok-found.ensures.value) c.in_ok-tokens.was c.in-Ok.is (follows_for (λ (h : PutHeaders). if_match_get_tokens c.args.request.now.method h.conditions (option_copied c.as_ref-2.result)) c.headers.view_is c.if_match_get_tokens.ensures)
    c.when_made.ensures (c.as_ref-3.ensures.value ∙ c.ok-found.ensures.value) c.deref.ensures.value c.in_ok-member_allowed.ensures c.is_announced.ensures c.if-not-is_announced.true))

pub returns-clause-plan : goal.returns-clause-plan
returns-clause-plan g c =
    follows_lent g.L.DavLockSystem.locks _ c.as_ref-ls.ensures.value (follows_for (λ who. put_allowed c.args.request.now.method c.args.headers.now (names c.args.request.now.path) (caller_at c.args.self.now.moment who) c.args.bytes.now) c.asker.view_is (
    put_agreed c.args.request.now.method c.args.headers.now (names c.args.request.now.path) (caller_at c.args.self.now.moment (asker_of c.asker.inside)) c.args.bytes.now _ _ _ c.in_ok-writing.writing _ _ _ c.in-Ok.tokens c.deref.result.now (members_change c.when_made.result) _ c.is_announced.result c.is_some.result
    c.metadata.ensures.asks (c.as_ref.ensures.value ∙ c.ok-found.ensures.value) c.writing_of.ensures c.in_ok-writing.was
    (c.as_ref-2.ensures.value ∙ c.ok-found.ensures.value) c.in_ok-tokens.was c.in-Ok.is (follows_for (λ (h : PutHeaders). if_match_get_tokens c.args.request.now.method h.conditions (option_copied c.as_ref-2.result)) c.headers.view_is c.if_match_get_tokens.ensures)
    c.when_made.ensures (c.as_ref-3.ensures.value ∙ c.ok-found.ensures.value) c.deref.ensures.value c.in_ok-member_allowed.ensures c.is_announced.ensures c.if-not-is_announced.false (c.is_some.ensures ∙ ap is_some (sym c.as_ref-3.ensures.value))))
