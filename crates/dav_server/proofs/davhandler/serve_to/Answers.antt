use Rattle.std.proofs.Common.{Ok, Err, ap, refl}
use Rattle.dav_engine.specs.OnHandler.{PropfindOf}
use Rattle.dav_server.specs.Machine.{finds_properties}
use Rattle.dav_server.proofs.HandingLemmas.{handing_by, handing_err}
use Rattle.dav_server.proofs.StepLemmas.{asked_at, serves_as, serves_by, serves_held, plan_at}
use Rattle.dav_server.proofs.davhandler.serve_to.Goals as goal

pub returns-then-is_propfind-clause-serves : goal.returns-then-is_propfind-clause-serves
returns-then-is_propfind-clause-serves g c =
    handing_by g.T.Takes.opened g.T.Takes.taken c.args.to _ (λ whole one.
    serves_as (λ plan is. plan_at (c.if-is_propfind.ensures.0 refl) (finds_properties is))
    (serves_held c.handler.view_is (serves_by (ap (PropfindOf c.args.request.now c.args.body.now) (asked_at c.exchange.view_is c.asker_of.ensures)) one))) c.handle_propfind_to.ensures.serves

pub returns-in-Ok-clause-serves : goal.returns-in-Ok-clause-serves
returns-in-Ok-clause-serves g c = (Ok c.in-Ok.reply, c.in-Ok.ensures.serves, refl)

pub returns-clause-serves : goal.returns-clause-serves
returns-clause-serves g c = handing_err g.T.Takes.opened g.T.Takes.taken c.args.to _ c.in-Err.ensures.serves
