use Rattle.std.proofs.Common.{map}
use Rattle.dav_core.specs.ElementView.{node_tree}
use Rattle.dav_presented.specs.Typed.{outcome_child}
use Rattle.dav_presented.proofs.TreeLemmas.{rebuilt}
use Rattle.dav_presented.proofs.typed.changed.outcomes.Goals as goal

pub returns : goal.returns
returns c = rebuilt outcome_child _ _ _ _ (map node_tree c.told.inside.children.items) _ c.args.told c.told.view_is c.in_ok-children.ensures
