use Rattle.dav_engine.proofs.MultistatusLemmas.{response_turn}
use Rattle.dav_engine.proofs.reply.multistatus.multistatus.Goals as goal

pub loop-item-preserved : goal.loop-item-preserved
loop-item-preserved c =
    response_turn c.args.items.now c.loop-item.item-index c.item-item.result c.loop-item.element c.push_element.new.self c.in_ok-response.response
    c.loop-item-test.true c.item-item.is c.loop-item.invariant c.in_ok-response.ensures c.in_ok-push_element.ensures.ok
