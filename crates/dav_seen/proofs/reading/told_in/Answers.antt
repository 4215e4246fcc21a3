use Rattle.std.proofs.Common.{map}
use Rattle.dav_core.specs.ElementView.{node_tree}
use Rattle.dav_seen.proofs.ReplyLemmas.{told_children}
use Rattle.dav_seen.proofs.reading.told_in.Goals as goal

pub returns-in-Tree : goal.returns-in-Tree
returns-in-Tree c = told_children _ _ _ _ (map node_tree c.tree.inside.children.items) c.in-Tree.tree c.args.body c.tree.view_is c.in-Tree.is
