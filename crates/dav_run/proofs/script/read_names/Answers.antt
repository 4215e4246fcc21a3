use Rattle.dav_run.specs.Script.{IsText}
use Rattle.dav_run.proofs.Items.{item_at, seen_more}
use Rattle.dav_run.proofs.script.read_names.Goals as goal

pub returns-in_err-text_of-clause-none : goal.returns-in_err-text_of-clause-none
returns-in_err-text_of-clause-none c = λ e names are.
    let (name, is) = item_at IsText c.args.list.now c.loop-item.item-index c.item-item.result names c.loop-item-test.true c.item-item.is are in
    c.in_err-text_of.ensures.none name is

pub loop-item-preserved : goal.loop-item-preserved
loop-item-preserved c =
    seen_more IsText (λ t. t.now) c.args.list.now c.loop-item.item-index c.item-item.result c.loop-item.names.items c.in_ok-text_of.field-0 c.push.new.self.items
    c.loop-item-test.true c.item-item.is c.in_ok-push.ensures.items c.loop-item.invariant c.in_ok-text_of.ensures.ok
