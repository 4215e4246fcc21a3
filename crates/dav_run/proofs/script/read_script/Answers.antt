use Rattle.std.proofs.Common.{rules, map, codes}
use Rattle.serde_json.specs.Find.{get}
use Rattle.serde_json.specs.View.{view, items_view}
use Rattle.dav_run.specs.Script.{AreItems, IsRequest, script_request}
use Rattle.dav_run.proofs.Places.{place_kept}
use Rattle.dav_run.proofs.script.read_script.Goals as goal

pub returns-in_err-alone-clause-none : goal.returns-in_err-alone-clause-none
returns-in_err-alone-clause-none c = λ e content is.
    let also : AreItems IsRequest (items_view c.deref.result.now) content.requests = search rules in
    let place = place_kept (get (codes "alone") (view c.args.value.now)) (items_view c.deref.result.now) content.requests (map script_request c.in_ok-requests.requests.items) content.alone also c.in_ok-requests.ensures.ok is.alone in
    c.in_err-alone.ensures.none content.alone (rw (c.get-6.ensures, c.deref-2.ensures.value) place)
