use Rattle.std.proofs.Common.{◌≡◌, false, take}
use Rattle.std.specs.List.{list_any}
use Rattle.dav_core.specs.ElementView.{is_node_named}
use Rattle.dav_core.proofs.element.children.index_named.Given as goal

abbrev pub invariant-loop-index : goal.invariant-loop-index
invariant-loop-index l = list_any (is_node_named l.name) (take l.index l.children) ≡ false
