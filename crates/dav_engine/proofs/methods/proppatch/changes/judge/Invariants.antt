use Rattle.std.proofs.Common.{◌≡◌}
use Rattle.dav_engine.specs.Proppatch.{answered_at_once, to_store}
use Rattle.dav_engine.proofs.methods.proppatch.changes.judge.Given as goal

abbrev pub invariant-loop-change : goal.invariant-loop-change
invariant-loop-change l = record {
  answered : l.answered.items ≡ answered_at_once l.has l.yielded;
  stored : l.stored.items ≡ to_store l.has l.yielded;
}
