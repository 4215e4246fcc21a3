use Rattle.dav_run.specs.Script.{IsRefusal}
use Rattle.dav_run.proofs.Items.{item_at, items_more}
use Rattle.dav_run.proofs.script.read_refusal_list.Goals as goal

pub returns-in_err-read_refusal-clause-none : goal.returns-in_err-read_refusal-clause-none
returns-in_err-read_refusal-clause-none c = λ e refusals are.
    let (refusal, is) = item_at IsRefusal c.args.list.now c.loop-item.item-index c.item-item.result refusals c.loop-item-test.true c.item-item.is are in
    c.in_err-read_refusal.ensures.none refusal is

pub loop-item-preserved : goal.loop-item-preserved
loop-item-preserved c =
    items_more IsRefusal c.args.list.now c.loop-item.item-index c.item-item.result c.loop-item.refusals.items c.in_ok-read_refusal.field-0 c.push.new.self.items
    c.loop-item-test.true c.item-item.is c.in_ok-push.ensures.items c.loop-item.invariant c.in_ok-read_refusal.ensures.ok
