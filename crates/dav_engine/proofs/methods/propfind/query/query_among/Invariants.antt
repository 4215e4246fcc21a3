use Rattle.std.proofs.Common.{◌≡◌}
use Rattle.dav_core.specs.ChildElements.{elements_left}
use Rattle.dav_core.specs.Element.{child_elements}
use Rattle.dav_engine.specs.Propfind.{included_in, query_among}
use Rattle.dav_engine.proofs.methods.propfind.query.query_among.Given as goal

abbrev pub invariant-loop-part : goal.invariant-loop-part
invariant-loop-part l = query_among (included_in l.tree) (elements_left l.part-iterator) ≡ query_among (included_in l.tree) (child_elements l.tree)
