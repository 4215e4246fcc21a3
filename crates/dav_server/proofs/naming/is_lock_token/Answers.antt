use Rattle.std.proofs.Common.{◌∙◌, ap, bytes_eq, subst}
use Rattle.std.specs.Prelude.{option_map, string_bytes}
use Rattle.dav_engine.specs.Headers.{Decodes}
use Rattle.dav_engine.specs.LockToken.{SaysLockToken}
use Rattle.dav_engine.proofs.Theorems.{token_said}
use Rattle.dav_server.proofs.NamingLemmas.{lock_token_of, no_lock_token}
use Rattle.dav_server.proofs.naming.is_lock_token.Goals as goal

pub returns-in-Some : goal.returns-in-Some
returns-in-Some c =
    let headers = c.args.headers.now in
    let decoded = token_said headers (λ t. string_bytes t.0) _ _ (option_map (λ t. t.now) c.token_in.result) c.as_ref.ensures.value c.in_ok-header.ensures c.token_in.ensures in
    lock_token_of headers c.args.token.now c.in-Some.said.now _ (subst (λ o. Decodes SaysLockToken headers (option_map (λ t. t.now) o)) c.in-Some.is decoded)
    (c.is_same.ensures ∙ ap (λ said. bytes_eq said c.as_bytes-in-Some.result.now) c.as_bytes.ensures.value ∙ ap (bytes_eq c.in-Some.said.now) c.as_bytes-in-Some.ensures.value)

pub returns : goal.returns
returns c =
    let headers = c.args.headers.now in
    let decoded = token_said headers (λ t. string_bytes t.0) _ _ (option_map (λ t. t.now) c.token_in.result) c.as_ref.ensures.value c.in_ok-header.ensures c.token_in.ensures in
    no_lock_token headers c.args.token.now (subst (λ o. Decodes SaysLockToken headers (option_map (λ t. t.now) o)) c.in-None.is decoded)
