use Rattle.std.proofs.Common.{◌∙◌, sym, subst}
use Rattle.std.proofs.lemmas.Bool.{false≢true}
use Rattle.dav_server.specs.Head.{IsHead}
use Rattle.dav_engine.specs.LockToken.{SaysLockToken}
use Rattle.dav_server.proofs.NamingLemmas.{unnamed, lock_named, named_by_if, with_head}
use Rattle.dav_server.proofs.exchange.Exchange.names.Goals as goal

pub returns-in_default-clause-ok : goal.returns-in_default-clause-ok
returns-in_default-clause-ok c =
    unnamed c.args.self.now c.args.token.now (λ r is. c.in_default.ensures.err.1 r (subst (λ x. IsHead x.head r) (sym c.self.view_is) is))

pub returns-then-named-clause-ok : goal.returns-then-named-clause-ok
returns-then-named-clause-ok c =
    let is = subst (λ x. IsHead x.head c.in-Ok.view) c.self.view_is c.in-Ok.ensures.ok in
    lock_named c.args.self.now c.args.token.now c.in-Ok.view is
    (subst (λ h. SaysLockToken h c.args.token.now) c.in_ok-headers.ensures (c.in_ok-named.ensures.0 c.if-named.true))

pub returns-clause-ok : goal.returns-clause-ok
returns-clause-ok c =
    let is = subst (λ x. IsHead x.head c.in-Ok.view) c.self.view_is c.in-Ok.ensures.ok in
    named_by_if c.args.self.now c.args.token.now c.in-Ok.view is c.in_ok-headers.headers c.is_if_token.result c.in_ok-headers.ensures
    (λ said. false≢true (sym c.if-named.false ∙ c.in_ok-named.ensures.1 said)) c.is_if_token.ensures

pub returns-clause-err : goal.returns-clause-err
returns-clause-err c =
    let is = subst (λ x. IsHead x.head c.in-Ok.view) c.self.view_is c.in-Ok.ensures.ok in
    with_head c.args.self.now c.args.token.now c.in-Ok.view is c.is_if_token.result
