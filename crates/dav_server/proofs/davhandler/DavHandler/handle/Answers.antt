use Rattle.std.proofs.Common.{Err, ap}
use Rattle.std.proofs.lemmas.Result.{IfOk-weaker}
use Rattle.dav_engine.proofs.TakingLemmas.{gathered_err, gathered_ok}
use Rattle.dav_server.specs.Server.{StopsIn}
use Rattle.dav_server.proofs.CutSteps.{safe_leaves_cut}
use Rattle.dav_server.proofs.EachRequestLemmas.{safe_leaves, create_only_leaves, refused_status_leaves}
use Rattle.dav_server.proofs.HrefReplies.{step_leads_back}
use Rattle.dav_server.proofs.ListingLemmas.{reply_is_whole}
use Rattle.dav_server.proofs.StepLemmas.{served_ok, served_err, served_cut, any_err}
use Rattle.dav_server.proofs.UngrantedLemmas.{grants_nothing}
use Rattle.dav_server.proofs.davhandler.DavHandler.handle.Goals as goal

pub returns-in-Ok-clause-ok : goal.returns-in-Ok-clause-ok
returns-in-Ok-clause-ok g c = served_ok (gathered_ok c.gathered.ensures c.in-Ok.ensures.serves)

pub returns-in-Err-clause-ok : goal.returns-in-Err-clause-ok
returns-in-Err-clause-ok g c = IfOk-weaker _ _ _ (λ reply r. served_err (gathered_err c.in-Err.ensures.serves) r.0 r.1) c.refuse.ensures

pub returns-in-Err-clause-err : goal.returns-in-Err-clause-err
returns-in-Err-clause-err g c = any_err {P = StopsIn _ _ _} _ (record {
  cut = served_cut (gathered_err c.in-Err.ensures.serves);
  reading = safe_leaves_cut _ _ _ _ (served_cut (gathered_err c.in-Err.ensures.serves));
  ungranted = grants_nothing _ _ _ _ _ (gathered_err c.in-Err.ensures.serves) (λ is. c.in-Err.ensures.ungranted (ap Err is));
})

pub returns-in-Ok-clause-reading : goal.returns-in-Ok-clause-reading
returns-in-Ok-clause-reading g c = safe_leaves _ _ _ _ _ (served_ok (gathered_ok c.gathered.ensures c.in-Ok.ensures.serves))

pub returns-in-Err-clause-reading : goal.returns-in-Err-clause-reading
returns-in-Err-clause-reading g c = safe_leaves_cut _ _ _ _ (served_cut (gathered_err c.in-Err.ensures.serves))

pub returns-in-Ok-clause-created : goal.returns-in-Ok-clause-created
returns-in-Ok-clause-created g c = create_only_leaves _ _ _ _ _ (served_ok (gathered_ok c.gathered.ensures c.in-Ok.ensures.serves))

pub returns-in-Err-clause-created : goal.returns-in-Err-clause-created
returns-in-Err-clause-created g c = IfOk-weaker _ _ _ (λ reply r. create_only_leaves _ _ _ _ reply (served_err (gathered_err c.in-Err.ensures.serves) r.0 r.1)) c.refuse.ensures

pub returns-in-Ok-clause-refused : goal.returns-in-Ok-clause-refused
returns-in-Ok-clause-refused g c = refused_status_leaves _ _ _ _ _ (served_ok (gathered_ok c.gathered.ensures c.in-Ok.ensures.serves))

pub returns-in-Err-clause-refused : goal.returns-in-Err-clause-refused
returns-in-Err-clause-refused g c = IfOk-weaker _ _ _ (λ reply r. refused_status_leaves _ _ _ _ reply (served_err (gathered_err c.in-Err.ensures.serves) r.0 r.1)) c.refuse.ensures

pub returns-in-Ok-clause-hrefs : goal.returns-in-Ok-clause-hrefs
returns-in-Ok-clause-hrefs g c = step_leads_back _ _ _ _ _ _ _ (served_ok (gathered_ok c.gathered.ensures c.in-Ok.ensures.serves))

pub returns-in-Err-clause-hrefs : goal.returns-in-Err-clause-hrefs
returns-in-Err-clause-hrefs g c = IfOk-weaker _ _ _ (λ reply r. step_leads_back _ _ _ _ _ _ reply (served_err (gathered_err c.in-Err.ensures.serves) r.0 r.1)) c.refuse.ensures

pub returns-in-Ok-clause-listing : goal.returns-in-Ok-clause-listing
returns-in-Ok-clause-listing g c = reply_is_whole _ _ _ _ _ _ _ (served_ok (gathered_ok c.gathered.ensures c.in-Ok.ensures.serves))

pub returns-in-Err-clause-listing : goal.returns-in-Err-clause-listing
returns-in-Err-clause-listing g c = IfOk-weaker _ _ _ (λ reply r. reply_is_whole _ _ _ _ _ _ reply (served_err (gathered_err c.in-Err.ensures.serves) r.0 r.1)) c.refuse.ensures
