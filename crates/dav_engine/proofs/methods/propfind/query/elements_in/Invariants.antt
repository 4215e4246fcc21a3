use Rattle.std.proofs.Common.{◌≡◌, ◌++◌}
use Rattle.dav_core.specs.ChildElements.{elements_left}
use Rattle.dav_core.specs.Element.{child_elements}
use Rattle.dav_engine.proofs.methods.propfind.query.elements_in.Given as goal

abbrev pub invariant-loop-child : goal.invariant-loop-child
invariant-loop-child l = l.elements.items ++ elements_left l.child-iterator ≡ child_elements l.element
