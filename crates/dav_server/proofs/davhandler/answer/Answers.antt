use Rattle.std.proofs.Common.{Ok, Err, subst}
use Rattle.std.proofs.lemmas.Result.{err_from_is_err_and}
use Rattle.dav_server.specs.Head.{IsHead}
use Rattle.dav_server.specs.Machine.{Means, no_head, no_method, known}
use Rattle.dav_server.proofs.HandingLemmas.{handing_by, handing_err}
use Rattle.dav_server.proofs.StepLemmas.{serves_as, serves_asked, serves_error, served_at}
use Rattle.dav_server.proofs.UngrantedLemmas.{lock_method}
use Rattle.dav_server.proofs.davhandler.answer.Goals as goal

pub returns-in-Err-clause-serves : goal.returns-in-Err-clause-serves
returns-in-Err-clause-serves g c = rw c.in-Err.ensures.err.0 (handing_err g.T.Takes.opened g.T.Takes.taken c.args.to _ (serves_asked (Means c.args.handler.now.server.settings) c.exchange.view_is (serves_error _ (no_head c.in-Err.ensures.err.1))))

pub returns-in_err-method-clause-serves : goal.returns-in_err-method-clause-serves
returns-in_err-method-clause-serves g c =
    let p = err_from_is_err_and c.from_residual.result c.from_residual.ensures.1 in
    rw (p.1, p.2) (handing_err g.T.Takes.opened g.T.Takes.taken c.args.to _ (serves_error _ (no_method _ _ (subst (λ x. IsHead x.head c.in-Ok.view) c.exchange.view_is c.in-Ok.ensures.ok) (served_at (Err c.in_err-method.field-0.0) c.method.ensures c.in_err-method.ensures))))

pub returns-clause-serves : goal.returns-clause-serves
returns-clause-serves g c = handing_by g.T.Takes.opened g.T.Takes.taken c.args.to _ (λ whole. serves_as (λ plan is. known _ _ (subst (λ x. IsHead x.head c.in-Ok.view) c.exchange.view_is c.in-Ok.ensures.ok) (served_at (Ok c.in_ok-method.method) c.method.ensures c.in_ok-method.ensures) is)) c.answer_method.ensures.serves

pub returns-clause-ungranted : goal.returns-clause-ungranted
returns-clause-ungranted g c = λ memory asks.
    c.answer_method.ensures.ungranted memory
    (lock_method c.args.exchange.now asks (subst (λ x. IsHead x.head c.in-Ok.view) c.exchange.view_is c.in-Ok.ensures.ok) (served_at (Ok c.in_ok-method.method) c.method.ensures c.in_ok-method.ensures)) asks.1
