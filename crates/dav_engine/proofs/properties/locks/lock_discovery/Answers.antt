use Rattle.dav_engine.proofs.MultistatusLemmas.{lock_turn}
use Rattle.dav_engine.proofs.properties.locks.lock_discovery.Goals as goal

pub loop-lock-preserved : goal.loop-lock-preserved
loop-lock-preserved c =
    lock_turn c.args.locks.now c.loop-lock.lock-index c.lock-item.result c.loop-lock.element c.push_element.new.self c.in_ok-active_lock.field-0
    c.loop-lock-test.true c.lock-item.is c.loop-lock.invariant c.in_ok-active_lock.ensures c.in_ok-push_element.ensures.ok
