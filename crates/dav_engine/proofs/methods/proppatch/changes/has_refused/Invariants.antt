use Rattle.std.proofs.Common.{◌≡◌, drop}
use Rattle.dav_engine.specs.Proppatch.{has_refused}
use Rattle.dav_engine.proofs.methods.proppatch.changes.has_refused.Given as goal

abbrev pub invariant-loop-status : goal.invariant-loop-status
invariant-loop-status l = has_refused (drop l.status-index l.answered) ≡ has_refused l.answered
