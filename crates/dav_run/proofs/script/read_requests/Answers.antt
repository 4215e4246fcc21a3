use Rattle.dav_run.specs.Script.{IsRequest, script_request}
use Rattle.dav_run.specs.declared.script.ScriptError.TheVariants.{NotScript}
use Rattle.dav_run.proofs.Refusals.{handed_on}
use Rattle.dav_run.proofs.Items.{item_at, seen_more}
use Rattle.dav_run.proofs.script.read_requests.Goals as goal

pub returns-in_err-read_request-clause-none : goal.returns-in_err-read_request-clause-none
returns-in_err-read_request-clause-none c = λ e requests are.
    let refused = handed_on c.from_residual.result c.in_err-read_request.field-0.0 NotScript c.from_residual.ensures.1 e in
    let (request, is) = item_at IsRequest c.args.list.now c.loop-item.item-index c.item-item.result requests c.loop-item-test.true c.item-item.is are in
    c.in_err-read_request.ensures.none refused request is

pub loop-item-preserved : goal.loop-item-preserved
loop-item-preserved c =
    seen_more IsRequest script_request c.args.list.now c.loop-item.item-index c.item-item.result c.loop-item.requests.items c.in_ok-read_request.field-0 c.push.new.self.items
    c.loop-item-test.true c.item-item.is c.in_ok-push.ensures.items c.loop-item.invariant c.in_ok-read_request.ensures.ok
