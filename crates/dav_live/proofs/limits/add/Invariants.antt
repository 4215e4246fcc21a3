use Rattle.std.proofs.Common.{◌≡◌, ◌++◌, drop}
use Rattle.dav_live.proofs.limits.add.Given as goal

abbrev pub invariant-loop-limit : goal.invariant-loop-limit
invariant-loop-limit l = l.all.items ++ drop l.limit-index l.limits ≡ l.initial.all.items ++ l.limits
