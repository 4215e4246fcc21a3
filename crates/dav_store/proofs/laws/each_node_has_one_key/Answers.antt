use Rattle.dav_store.proofs.TreeOnce.{is_found, is_found_once}
use Rattle.dav_store.proofs.laws.each_node_has_one_key.Goals as goal

-- src/laws.rt
pub returns-clause-found : goal.returns-clause-found
returns-clause-found g c = is_found g.K.PartialEq.eq c.args.tree.now c.args.id c.see_rooted.ensures c.see_key.ensures

pub returns-clause-once : goal.returns-clause-once
returns-clause-once g c = is_found_once g.met.K.Eq.laws c.args.tree.now c.args.id c.see_rooted.ensures
