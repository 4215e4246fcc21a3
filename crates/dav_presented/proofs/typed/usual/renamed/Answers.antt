use Rattle.std.proofs.Common.{map, ap}
use Rattle.dav_core.specs.ElementView.{node_tree, attribute_bytes}
use Rattle.dav_presented.proofs.TreeLemmas.{renamed}
use Rattle.dav_presented.proofs.typed.usual.renamed.Goals as goal

pub returns : goal.returns
returns c = renamed _ _ _ _ (map node_tree c.told.inside.children.items) c.args.told _ _ c.told.view_is c.in_ok-prefix.ensures.ok (ap (map attribute_bytes) c.new.ensures.items)
