use Rattle.std.proofs.Common.{option_map, map}
use Rattle.dav_core.specs.ElementView.{node_tree}
use Rattle.dav_presented.specs.Typed.{child_told, told_property}
use Rattle.dav_presented.proofs.TreeLemmas.{told_more}
use Rattle.dav_presented.proofs.typed.changed.all_in_prop.Goals as goal

pub loop-child-preserved : goal.loop-child-preserved
loop-child-preserved c =
    told_more node_tree (child_told (told_property (option_map (λ t. t.now) c.args.kind) c.args.telling)) c.loop-child.yielded c.in-Some.child (option_map node_tree c.in_ok-told.told)
    (map node_tree c.loop-child.nodes.items) _ c.loop-child.invariant c.in_ok-told.ensures c.in_ok-add.ensures
