use Rattle.std.proofs.Common.{◌≡◌, false, take}
use Rattle.std.specs.List.{list_any}
use Rattle.dav_core.specs.ElementView.{has_name}
use Rattle.dav_core.proofs.element.attributes.index_of.Given as goal

abbrev pub invariant-loop-index : goal.invariant-loop-index
invariant-loop-index l = list_any (has_name l.name) (take l.index l.attributes) ≡ false
