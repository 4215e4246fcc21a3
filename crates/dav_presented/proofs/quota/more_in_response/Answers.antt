use Rattle.std.proofs.Common.{map}
use Rattle.dav_core.specs.ElementView.{node_tree}
use Rattle.dav_presented.specs.Quota.{more_in_found}
use Rattle.dav_presented.proofs.TreeLemmas.{rebuilt}
use Rattle.dav_presented.proofs.quota.more_in_response.Goals as goal

pub returns : goal.returns
returns c = rebuilt (more_in_found c.args.more.now) _ _ _ _ (map node_tree c.response.inside.children.items) _ c.args.response c.response.view_is c.in_ok-children.ensures
