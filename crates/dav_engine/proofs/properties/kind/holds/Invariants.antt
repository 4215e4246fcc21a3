use Rattle.std.proofs.Common.{◌≡◌, length}
use Rattle.dav_engine.specs.Properties.{holds}
use Rattle.dav_engine.proofs.properties.kind.holds.Given as goal

abbrev pub invariant-loop-rest : goal.invariant-loop-rest
invariant-loop-rest l = holds l.rest l.needle ≡ holds l.fn.text l.needle

abbrev pub decreases-loop-rest : goal.decreases-loop-rest
decreases-loop-rest l = length l.rest
