use Rattle.std.proofs.Common.{◌≡◌, ◌++◌}
use Rattle.std.specs.List.{flat_map}
use Rattle.dav_core.specs.ChildElements.{elements_left}
use Rattle.dav_core.specs.Element.{child_elements}
use Rattle.dav_engine.specs.Proppatch.{changes_by}
use Rattle.dav_engine.proofs.methods.proppatch.changes.changes_of.Given as goal

abbrev pub invariant-loop-part : goal.invariant-loop-part
invariant-loop-part l = l.changes.items ++ flat_map changes_by (elements_left l.part-iterator) ≡ flat_map changes_by (child_elements l.tree)
