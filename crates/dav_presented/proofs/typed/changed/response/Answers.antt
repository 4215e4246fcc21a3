use Rattle.std.proofs.Common.{map, codes, option_map}
use Rattle.dav_core.specs.ElementView.{node_tree}
use Rattle.dav_presented.specs.Typed.{each_below, prop_told, told_property}
use Rattle.dav_presented.proofs.TreeLemmas.{rebuilt}
use Rattle.dav_presented.proofs.typed.changed.response.Goals as goal

pub returns : goal.returns
returns c = rebuilt (each_below (codes "propstat") (prop_told (told_property (option_map (λ t. t.now) c.args.kind) c.args.telling))) _ _ _ _ (map node_tree c.told.inside.children.items) _ c.args.told c.told.view_is c.in_ok-children.ensures
