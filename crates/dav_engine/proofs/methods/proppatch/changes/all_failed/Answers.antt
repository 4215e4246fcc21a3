use Rattle.std.proofs.Common.{[], map, refl}
use Rattle.dav_engine.specs.Proppatch.{failed_status, failed_element, element_by_name}
use Rattle.dav_engine.proofs.MultistatusLemmas.{told_turn}
use Rattle.dav_engine.proofs.methods.proppatch.changes.all_failed.Goals as goal

pub loop-status-preserved : goal.loop-status-preserved
loop-status-preserved c =
    told_turn (λ r. failed_status r.0) (λ r. element_by_name r.1.property) [] c.args.judged.now.answered.items c.loop-status.status-index c.loop-status-item.result c.loop-status.told.items _ _ _
    (rw c.deref-status-items.ensures.value at c.loop-status-test.true) (rw c.deref-status-items.ensures.value at c.loop-status-item.is) c.loop-status.invariant
    c.failed_status.ensures (rw (← c.change.view_is) c.in_ok-element.ensures) c.in_ok-push.ensures.items

pub loop-change-preserved : goal.loop-change-preserved
loop-change-preserved c =
    told_turn (λ change. 424) failed_element (map (λ r. (failed_status r.0, element_by_name r.1.property)) c.args.judged.now.answered.items) c.args.judged.now.stored.items
    c.loop-change.change-index c.change-item.result c.loop-change.told.items _ _ _
    (rw c.deref-change-items.ensures.value at c.loop-change-test.true) (rw c.deref-change-items.ensures.value at c.change-item.is) c.loop-change.invariant
    refl c.in_ok-element-2.ensures c.in_ok-push-2.ensures.items
