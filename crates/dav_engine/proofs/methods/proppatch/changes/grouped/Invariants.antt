use Rattle.std.proofs.Common.{◌≡◌}
use Rattle.dav_engine.specs.PropertyView.{groups_in}
use Rattle.dav_engine.specs.Proppatch.{grouped}
use Rattle.dav_engine.proofs.methods.proppatch.changes.grouped.Given as goal

abbrev pub invariant-loop-status : goal.invariant-loop-status
invariant-loop-status l = groups_in l.groups ≡ grouped l.yielded
