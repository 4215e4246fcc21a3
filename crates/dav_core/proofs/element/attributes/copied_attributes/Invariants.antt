use Rattle.std.proofs.Common.{◌≡◌, take, map}
use Rattle.dav_core.specs.ElementView.{attribute_bytes}
use Rattle.dav_core.proofs.element.attributes.copied_attributes.Given as goal

abbrev pub invariant-loop-name : goal.invariant-loop-name
invariant-loop-name l = map attribute_bytes l.copies.items ≡ map attribute_bytes (take l.name-index l.name-items)
