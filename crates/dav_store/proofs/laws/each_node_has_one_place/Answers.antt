use Rattle.dav_store.proofs.TreeOnce.{has_one_place_each, finds_children, climbs_to_the_root}
use Rattle.dav_store.proofs.laws.each_node_has_one_place.Goals as goal

-- src/laws.rt
pub returns-clause-place : goal.returns-clause-place
returns-clause-place g c = has_one_place_each c.args.tree.now c.see_rooted.ensures

pub returns-clause-found : goal.returns-clause-found
returns-clause-found g c = finds_children g.K.PartialEq.eq c.args.tree.now c.see_rooted.ensures

pub returns-clause-reached : goal.returns-clause-reached
returns-clause-reached g c = climbs_to_the_root c.args.tree.now c.see_rooted.ensures
