use Rattle.std.proofs.Common.{◌≡◌, get_or, subst, take}
use Rattle.dav_headers.proofs.LoopLemmas.{take_turn}
use Rattle.dav_presented.proofs.TreeLemmas.{child_after, same_children}
use Rattle.dav_presented.proofs.quota.more_in_prop.Goals as goal

pub loop-property-init : goal.loop-property-init
loop-property-init c = same_children c.args.prop

pub loop-property-preserved : goal.loop-property-preserved
loop-property-preserved c =
    child_after c.args.prop (take c.loop-property.property-index c.args.more.now) c.in_ok-clone.field-0 _ c.loop-property.invariant c.in_ok-push_element.ensures.ok
    (take_turn c.args.more.now c.loop-property.property-index c.in_ok-clone.field-0 c.loop-property-test.true
    (subst (λ e. e ≡ get_or c.args.more.now c.loop-property.property-index e) c.in_ok-clone.ensures.cases c.property-item.is))
