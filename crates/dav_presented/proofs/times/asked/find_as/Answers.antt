use Rattle.std.proofs.Common.{map}
use Rattle.dav_core.specs.ElementView.{node_tree}
use Rattle.dav_presented.specs.Times.{asked_too}
use Rattle.dav_presented.proofs.TreeLemmas.{rebuilt}
use Rattle.dav_presented.proofs.times.asked.find_as.Goals as goal

pub returns : goal.returns
returns c = rebuilt asked_too _ _ _ _ (map node_tree c.tree.inside.children.items) _ c.args.tree c.tree.view_is c.in_ok-children.ensures
