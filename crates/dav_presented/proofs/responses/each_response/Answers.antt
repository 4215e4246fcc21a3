use Rattle.std.proofs.Common.{map}
use Rattle.dav_core.specs.ElementView.{node_tree}
use Rattle.dav_presented.specs.Responses.{changed_child}
use Rattle.dav_presented.proofs.TreeLemmas.{rebuilt}
use Rattle.dav_presented.proofs.responses.each_response.Goals as goal

pub returns : goal.returns
returns g c = rebuilt (changed_child (g.C.Change.changed c.args.change.now)) _ _ _ _ (map node_tree c.told.inside.children.items) _ c.args.told c.told.view_is c.in_ok-children.ensures
