use Rattle.dav_core.specs.ElementView.{attribute_bytes}
use Rattle.dav_run.specs.Script.{IsAttribute}
use Rattle.dav_run.specs.declared.script.ScriptError.TheVariants.{NotScript}
use Rattle.dav_run.proofs.Refusals.{handed_on}
use Rattle.dav_run.proofs.Items.{item_at, seen_more}
use Rattle.dav_run.proofs.script.elements.read_attribute_list.Goals as goal

pub returns-in_err-read_attribute-clause-none : goal.returns-in_err-read_attribute-clause-none
returns-in_err-read_attribute-clause-none c = λ e attributes are.
    let refused = handed_on c.from_residual.result c.in_err-read_attribute.field-0.0 NotScript c.from_residual.ensures.1 e in
    let (attribute, is) = item_at IsAttribute c.args.list.now c.loop-item.item-index c.item-item.result attributes c.loop-item-test.true c.item-item.is are in
    c.in_err-read_attribute.ensures.none refused attribute is

pub loop-item-preserved : goal.loop-item-preserved
loop-item-preserved c =
    seen_more IsAttribute attribute_bytes c.args.list.now c.loop-item.item-index c.item-item.result c.loop-item.attributes.items c.in_ok-read_attribute.field-0 c.push.new.self.items
    c.loop-item-test.true c.item-item.is c.in_ok-push.ensures.items c.loop-item.invariant c.in_ok-read_attribute.ensures.ok
