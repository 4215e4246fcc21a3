use Rattle.std.proofs.Common.{sym, ap, map, string_bytes, ◌∙◌}
use Rattle.std.proofs.lemmas.Result.{err_from_is_err_and}
use Rattle.dav_core.specs.Path.{names}
use Rattle.dav_engine.specs.OnHandler.{caller_in}
use Rattle.dav_engine.specs.Asker.{asker_of, caller_at}
use Rattle.dav_engine.specs.Conditions.{dav_if_match}
use Rattle.dav_engine.specs.Lock.{one_token, token_to_refresh}
use Rattle.dav_engine.specs.LockHeaders.{LockHeaders}
use Rattle.dav_engine.proofs.LockLemmas.{token_short, token_unclear, token_locked, token_uncopied, token_free}
use Rattle.dav_engine.proofs.ModelLemmas.{follows_lent, follows_for}
use Rattle.dav_engine.proofs.davinner.DavInner.token_to_refresh.Goals as goal

pub returns-in_err-tokens-clause-plan : goal.returns-in_err-tokens-clause-plan
returns-in_err-tokens-clause-plan g c =
    let p = err_from_is_err_and c.from_residual.result c.from_residual.ensures.1 in
    let one = follows_for (λ (h : LockHeaders). dav_if_match h.conditions.lists) c.headers.view_is c.dav_if_match.ensures in
    rw (p.1, p.2) (follows_lent g.L.DavLockSystem.locks _ c.as_ref-ls.ensures.value
    (token_short c.args.headers.now (names c.args.path.now) (caller_in c.args.self.now) c.dav_if_match.result one c.in_err-tokens.field-0.0 c.in_err-tokens.was))

pub returns-in_err-token-clause-plan : goal.returns-in_err-token-clause-plan
returns-in_err-token-clause-plan g c =
    let p = err_from_is_err_and c.from_residual-in_err-token.result c.from_residual-in_err-token.ensures.1 in
    let one = follows_for (λ (h : LockHeaders). dav_if_match h.conditions.lists) c.headers.view_is c.dav_if_match.ensures in
    let unclear = sym (c.in_err-token.ensures ∙ ap (λ ts. one_token (map string_bytes ts)) c.deref.ensures.value) in
    rw (p.1, p.2) (follows_lent g.L.DavLockSystem.locks _ c.as_ref-ls.ensures.value
    (token_unclear c.args.headers.now (names c.args.path.now) (caller_in c.args.self.now) c.dav_if_match.result one (c.in_ok-tokens.field-0-0, c.in_ok-tokens.tokens) c.in_ok-tokens.was c.in_err-token.field-0.0 unclear))

pub returns-then-not-is_open-clause-plan : goal.returns-then-not-is_open-clause-plan
returns-then-not-is_open-clause-plan g c =
    let one = follows_for (λ (h : LockHeaders). dav_if_match h.conditions.lists) c.headers.view_is c.dav_if_match.ensures in
    let only = sym (c.in_ok-token.ensures ∙ ap (λ ts. one_token (map string_bytes ts)) c.deref.ensures.value) in
    (follows_lent g.L.DavLockSystem.locks _ c.as_ref-ls.ensures.value
    (follows_for (λ who. token_to_refresh c.args.headers.now (names c.args.path.now) (caller_at c.args.self.now.moment who)) c.asker.view_is
    (token_locked c.args.headers.now (names c.args.path.now) (caller_at c.args.self.now.moment (asker_of c.asker.inside)) c.dav_if_match.result one (c.in_ok-tokens.field-0-0, c.in_ok-tokens.tokens) c.in_ok-tokens.was
    (string_bytes c.in_ok-token.token.now) c.deref-2.result.now c.is_open.result only c.deref-2.ensures.value c.is_open.ensures c.if-not-is_open.true)))

pub returns-in_err-clone-clause-plan : goal.returns-in_err-clone-clause-plan
returns-in_err-clone-clause-plan g c =
    let p = err_from_is_err_and c.from_residual-in_err-clone.result c.from_residual-in_err-clone.ensures.1 in
    let one = follows_for (λ (h : LockHeaders). dav_if_match h.conditions.lists) c.headers.view_is c.dav_if_match.ensures in
    let only = sym (c.in_ok-token.ensures ∙ ap (λ ts. one_token (map string_bytes ts)) c.deref.ensures.value) in
    rw (p.1, p.2) (follows_lent g.L.DavLockSystem.locks _ c.as_ref-ls.ensures.value
    (follows_for (λ who. token_to_refresh c.args.headers.now (names c.args.path.now) (caller_at c.args.self.now.moment who)) c.asker.view_is
    (token_uncopied c.args.headers.now (names c.args.path.now) (caller_at c.args.self.now.moment (asker_of c.asker.inside)) c.dav_if_match.result one (c.in_ok-tokens.field-0-0, c.in_ok-tokens.tokens) c.in_ok-tokens.was
    (string_bytes c.in_ok-token.token.now) c.deref-2.result.now c.is_open.result only c.deref-2.ensures.value c.is_open.ensures c.if-not-is_open.false)))

pub returns-clause-plan : goal.returns-clause-plan
returns-clause-plan g c =
    let one = follows_for (λ (h : LockHeaders). dav_if_match h.conditions.lists) c.headers.view_is c.dav_if_match.ensures in
    let only = sym (c.in_ok-token.ensures ∙ ap (λ ts. one_token (map string_bytes ts)) c.deref.ensures.value) in
    (follows_lent g.L.DavLockSystem.locks _ c.as_ref-ls.ensures.value
    (follows_for (λ who. token_to_refresh c.args.headers.now (names c.args.path.now) (caller_at c.args.self.now.moment who)) c.asker.view_is
    (token_free c.args.headers.now (names c.args.path.now) (caller_at c.args.self.now.moment (asker_of c.asker.inside)) c.dav_if_match.result one (c.in_ok-tokens.field-0-0, c.in_ok-tokens.tokens) c.in_ok-tokens.was
    (string_bytes c.in_ok-token.token.now) c.deref-2.result.now c.is_open.result only c.deref-2.ensures.value c.is_open.ensures c.if-not-is_open.false c.in_ok-clone.field-0 c.in_ok-clone.ensures.cases)))
