use Rattle.std.proofs.Common.{◌≡◌, map, option_map}
use Rattle.std.specs.List.{filter_map}
use Rattle.dav_core.specs.ElementView.{node_tree}
use Rattle.dav_presented.specs.Typed.{child_told, told_property}
use Rattle.dav_presented.proofs.typed.changed.all_in_prop.Given as goal

abbrev pub invariant-loop-child : goal.invariant-loop-child
invariant-loop-child l = map node_tree l.nodes.items ≡ filter_map (child_told (told_property (option_map (λ t. t.now) l.kind) l.telling)) (map node_tree l.yielded)
