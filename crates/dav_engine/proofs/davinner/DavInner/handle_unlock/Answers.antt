use Rattle.std.proofs.Common.{not, ap, ◌∙◌}
use Rattle.std.specs.Prelude.{option_map, string_bytes}
use Rattle.dav_engine.specs.Follows.{served}
use Rattle.dav_engine.specs.Unlock.{unlock, is_unlock}
use Rattle.dav_engine.proofs.LockTokenLemmas.{token_said}
use Rattle.dav_engine.proofs.UnlockLemmas.{lists, unlock_nowhere, unlock_nothing, unlock_by}
use Rattle.dav_engine.proofs.davinner.DavInner.handle_unlock.Goals as goal

pub returns-then-is_none-clause-serves : goal.returns-then-is_none-clause-serves
returns-then-is_none-clause-serves g c =
    let token = option_map (λ t. t.now) c.token_in-token.result in
    let none = lists g.L.DavLockSystem.locks _ _ (c.is_none.ensures ∙ ap not c.if-is_none.true) in
    served (unlock token c.args.request.now.path) (is_unlock token (token_said c.args.request.now.headers (λ t. string_bytes t.0) _ _ token c.as_ref.ensures.value c.in_ok-said.ensures c.token_in-token.ensures)) (unlock_nowhere token c.args.request.now.path none)

pub returns-in_default-clause-serves : goal.returns-in_default-clause-serves
returns-in_default-clause-serves g c =
    let token = option_map (λ t. t.now) c.token_in-token.result in
    let some = lists g.L.DavLockSystem.locks _ _ (c.is_none.ensures ∙ ap not c.if-is_none.false) in
    served (unlock token c.args.request.now.path) (is_unlock token (token_said c.args.request.now.headers (λ t. string_bytes t.0) _ _ token c.as_ref.ensures.value c.in_ok-said.ensures c.token_in-token.ensures))
    (unlock_nothing c.args.request.now.path token some (ap (option_map (λ t. t.now)) c.in_default.is))

pub returns-clause-serves : goal.returns-clause-serves
returns-clause-serves g c =
    let token = option_map (λ t. t.now) c.token_in-token.result in
    let some = lists g.L.DavLockSystem.locks _ _ (c.is_none.ensures ∙ ap not c.if-is_none.false) in
    served (unlock token c.args.request.now.path) (is_unlock token (token_said c.args.request.now.headers (λ t. string_bytes t.0) _ _ token c.as_ref.ensures.value c.in_ok-said.ensures c.token_in-token.ensures))
    (unlock_by c.args.request.now.path token c.in-Some.token.now some (ap (option_map (λ t. t.now)) c.in-Some.is) c.end_lock.ensures.follows)
