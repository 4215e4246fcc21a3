use Rattle.std.proofs.Common.{map}
use Rattle.dav_core.specs.ElementView.{node_tree}
use Rattle.dav_presented.specs.Quota.{more_in_prop}
use Rattle.dav_presented.proofs.TreeLemmas.{rebuilt}
use Rattle.dav_presented.proofs.quota.more_in_propstat.Goals as goal

pub returns : goal.returns
returns c = rebuilt (more_in_prop c.args.more.now) _ _ _ _ (map node_tree c.propstat.inside.children.items) _ c.args.propstat c.propstat.view_is c.in_ok-children.ensures
