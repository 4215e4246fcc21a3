use Rattle.std.proofs.Common.{◌≡◌, ◌++◌, codes}
use Rattle.std.specs.List.{filter, flat_map}
use Rattle.dav_core.specs.ChildElements.{elements_left}
use Rattle.dav_core.specs.Element.{child_elements, is_named}
use Rattle.dav_engine.specs.Proppatch.{changes_to, each_changed}
use Rattle.dav_engine.proofs.methods.proppatch.changes.add_changes.Given as goal

abbrev pub invariant-loop-prop : goal.invariant-loop-prop
invariant-loop-prop l =
    l.changes.items ++ each_changed l.is_set (flat_map child_elements (filter (is_named (codes "prop")) (elements_left l.prop-iterator)))
    ≡ l.initial.changes.items ++ changes_to l.is_set l.part
