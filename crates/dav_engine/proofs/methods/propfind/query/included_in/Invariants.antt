use Rattle.std.proofs.Common.{◌≡◌, codes}
use Rattle.std.specs.List.{find}
use Rattle.dav_core.specs.ChildElements.{elements_left}
use Rattle.dav_core.specs.Element.{is_named}
use Rattle.dav_engine.specs.Propfind.{children_of_found, included_in}
use Rattle.dav_engine.proofs.methods.propfind.query.included_in.Given as goal

abbrev pub invariant-loop-part : goal.invariant-loop-part
invariant-loop-part l = children_of_found (find (is_named (codes "includes")) (elements_left l.part-iterator)) ≡ included_in l.tree
