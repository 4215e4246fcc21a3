use Rattle.std.proofs.Common.{◌≡◌}
use Rattle.dav_engine.specs.Properties.{told_by}
use Rattle.dav_engine.proofs.properties.prop_writer.told_by.Given as goal

abbrev pub invariant-loop-response : goal.invariant-loop-response
invariant-loop-response l = l.element ≡ told_by l.writer l.yielded
