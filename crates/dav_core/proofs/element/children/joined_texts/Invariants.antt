use Rattle.std.proofs.Common.{◌≡◌, take, map, option_map, string_bytes}
use Rattle.std.specs.List.{filter_map}
use Rattle.dav_core.specs.Element.{joined_texts, text_bytes}
use Rattle.dav_core.specs.ElementView.{node_tree}
use Rattle.dav_core.proofs.element.children.joined_texts.Given as goal

abbrev pub invariant-loop-child : goal.invariant-loop-child
invariant-loop-child l =
    option_map string_bytes l.joined ≡ joined_texts (filter_map text_bytes (map node_tree (take l.child-index l.children)))
