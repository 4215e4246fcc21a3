use Rattle.std.proofs.Common.{map, codes}
use Rattle.dav_core.specs.ElementView.{node_tree}
use Rattle.dav_presented.specs.Times.{each_named, set_as}
use Rattle.dav_presented.proofs.TreeLemmas.{rebuilt}
use Rattle.dav_presented.proofs.times.asked.patch_as.Goals as goal

pub returns : goal.returns
returns c = rebuilt (each_named (codes "set") (each_named (codes "prop") (set_as c.args.moment))) _ _ _ _ (map node_tree c.tree.inside.children.items) _ c.args.tree c.tree.view_is c.in_ok-children.ensures
