use Rattle.std.specs.Vec.Iter.{into_iter_items}
use Rattle.std.proofs.Common.{All}
use Rattle.dav_limits.specs.Watches.{AreExact, IsPart, IsReading}
use Rattle.dav_limits.proofs.watches.Watches.noted.Given as goal

-- what is noted so far, what is left, and what is asked
abbrev pub invariant-loop-watch : goal.invariant-loop-watch
invariant-loop-watch l =
    All (IsPart l.handler.server l.head l.asked) l.parts.items × AreExact l.handler.server (into_iter_items l.watch-iterator) × IsReading l.handler.server l.head l.asked
