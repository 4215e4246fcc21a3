use Rattle.std.proofs.Common.{◌≡◌}
use Rattle.dav_core.specs.Element.{named_by, with_children}
use Rattle.dav_presented.proofs.responses.holding_all.Given as goal

abbrev pub invariant-loop-child : goal.invariant-loop-child
invariant-loop-child l = l.element ≡ with_children (named_by l.name) l.yielded
