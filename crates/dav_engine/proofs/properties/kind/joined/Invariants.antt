use Rattle.std.proofs.Common.{◌≡◌, ◌++◌}
use Rattle.dav_engine.proofs.properties.kind.joined.Given as goal

abbrev pub invariant-loop-property : goal.invariant-loop-property
invariant-loop-property l = l.all.items ≡ l.fn.properties.items ++ l.yielded
