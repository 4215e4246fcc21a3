use Rattle.std.proofs.Common.{map, ◌∙◌, ap}
use Rattle.dav_engine.specs.Properties.{property_response}
use Rattle.dav_engine.specs.PropertyView.{group_of}
use Rattle.dav_engine.proofs.MultistatusLemmas.{group_turn, one_mapped}
use Rattle.dav_engine.proofs.properties.response.property_response.Goals as goal

pub loop-status-preserved : goal.loop-status-preserved
loop-status-preserved c =
    group_turn c.args.path.now (map group_of c.loop-status.yielded) (c.in-Some.status, c.in-Some.properties.items) c.loop-status.response _ _ c.loop-status.invariant
    c.in_ok-propstat.ensures c.in_ok-push_element.ensures.ok
    ∙ ap (property_response c.args.path.now) (one_mapped group_of c.loop-status.yielded (c.in-Some.status, c.in-Some.properties))
