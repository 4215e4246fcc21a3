use Rattle.std.proofs.Common.{Err, ap}
use Rattle.std.proofs.lemmas.Result.{IfOk-weaker}
use Rattle.dav_server.specs.Server.{StopsIn}
use Rattle.dav_server.proofs.CutSteps.{safe_leaves_cut}
use Rattle.dav_server.proofs.HandingLemmas.{handed_err, in_parts, refused_parts}
use Rattle.dav_server.proofs.StepLemmas.{served_cut, any_err}
use Rattle.dav_server.proofs.UngrantedLemmas.{grants_nothing}
use Rattle.dav_server.proofs.davhandler.DavHandler.handle_to.Goals as goal

pub returns-in-Ok-clause-ok : goal.returns-in-Ok-clause-ok
returns-in-Ok-clause-ok g c = in_parts g.T.Takes.opened g.T.Takes.taken c.args.to c.in-Ok.ensures.serves

pub returns-in-Err-clause-ok : goal.returns-in-Err-clause-ok
returns-in-Err-clause-ok g c =
    IfOk-weaker c.refuse_whole.result _ _ (λ told r. refused_parts g.T.Takes.opened g.T.Takes.taken c.args.to told (handed_err g.T.Takes.opened g.T.Takes.taken c.args.to c.in-Err.ensures.serves) r) c.refuse_whole.ensures

pub returns-in-Ok-clause-reading : goal.returns-in-Ok-clause-reading
returns-in-Ok-clause-reading g c = safe_leaves_cut _ _ _ _ (served_cut c.in-Ok.ensures.serves.1)

pub returns-in-Err-clause-reading : goal.returns-in-Err-clause-reading
returns-in-Err-clause-reading g c = safe_leaves_cut _ _ _ _ (served_cut c.in-Err.ensures.serves.1)

pub returns-in-Err-clause-err : goal.returns-in-Err-clause-err
returns-in-Err-clause-err g c = any_err {P = StopsIn _ _ _} _ (record {
  cut = served_cut c.in-Err.ensures.serves.1;
  reading = safe_leaves_cut _ _ _ _ (served_cut c.in-Err.ensures.serves.1);
  ungranted = grants_nothing _ _ _ _ _ (handed_err g.T.Takes.opened g.T.Takes.taken c.args.to c.in-Err.ensures.serves) (λ is. c.in-Err.ensures.ungranted (ap Err is));
})
