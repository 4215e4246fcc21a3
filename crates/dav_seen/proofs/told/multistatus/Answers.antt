use Rattle.dav_seen.proofs.LoopLemmas.{way_turn}
use Rattle.dav_seen.proofs.told.multistatus.Goals as goal

pub loop-path-preserved : goal.loop-path-preserved
loop-path-preserved c =
    way_turn c.args.paths.now c.loop-path.path-index c.path-item.result c.loop-path.element c.push_element.new.self c.in_ok-way_response.field-0
    c.loop-path-test.true c.path-item.is c.loop-path.invariant c.in_ok-way_response.ensures c.in_ok-push_element.ensures.ok
