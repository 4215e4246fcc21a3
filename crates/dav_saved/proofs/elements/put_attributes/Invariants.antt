use Rattle.std.proofs.Common.{◌≡◌, ◌++◌, drop, map}
use Rattle.std.specs.List.{flat_map, AllByRecursion}
use Rattle.dav_core.specs.ElementView.{attribute_bytes}
use Rattle.dav_saved.specs.Spelling.{pair, many}
use Rattle.dav_saved.specs.Trees.{IsPair}
use Rattle.dav_saved.proofs.elements.put_attributes.Given as goal

abbrev pub invariant-loop-attribute : goal.invariant-loop-attribute
invariant-loop-attribute l =
    (l.out.items ++ flat_map pair (map attribute_bytes (drop l.attribute-index l.attributes)) ≡ l.fn.out.items ++ many pair (map attribute_bytes l.attributes))
    × (AllByRecursion IsPair (map attribute_bytes (drop l.attribute-index l.attributes)) → AllByRecursion IsPair (map attribute_bytes l.attributes))
