use Rattle.std.proofs.Common.{map, option_map}
use Rattle.std.specs.List.{filter_map}
use Rattle.dav_core.specs.ElementView.{node_tree}
use Rattle.dav_presented.specs.Typed.{child_told, told_property}
use Rattle.dav_presented.proofs.TreeLemmas.{rebuilt_by}
use Rattle.dav_presented.proofs.typed.changed.prop.Goals as goal

pub returns : goal.returns
returns c = rebuilt_by (filter_map (child_told (told_property (option_map (λ t. t.now) c.args.kind) c.args.telling))) _ _ _ _ (map node_tree c.told.inside.children.items) _ c.args.told c.told.view_is c.in_ok-children.ensures
