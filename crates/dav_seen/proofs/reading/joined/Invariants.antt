use Rattle.std.proofs.Common.{◌≡◌, ◌++◌}
use Rattle.dav_seen.proofs.reading.joined.Given as goal

abbrev pub invariant-loop-node : goal.invariant-loop-node
invariant-loop-node l = l.nodes.items ≡ l.fn.nodes.items ++ l.yielded
