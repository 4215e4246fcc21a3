use Rattle.dav_limits.specs.Watches.{AreExact}
use Rattle.dav_limits.proofs.watches.Watches.of.Given as goal

-- those so far are exact
abbrev pub invariant-loop-limit : goal.invariant-loop-limit
invariant-loop-limit l = AreExact l.handler.server l.list.items
