use Rattle.std.proofs.Common.{◌≡◌, ◌++◌, List, length}
use Rattle.dav_turns.specs.Frames.{Order, ReportView, ReadsReports}
use Rattle.dav_turns.specs.Turns.{keeping, server, Counts, HeardAll, orders_after}
use Rattle.dav_turns.proofs.TurnLemmas.{IsRun}
use Rattle.dav_turns.proofs.table.Table.hear_some.Given as goal

abbrev pub invariant-loop-report : goal.invariant-loop-report
invariant-loop-report g l = record {
  long : List ReportView;
  short : List ReportView;
  ordered : List Order;
  run : IsRun long short l.is_short;
  reads : ReadsReports l.reports (long ++ short) l.rest;
  heard : HeardAll (keeping g.K.Answerer.judges g.K.Answerer.answers g.K.Keeper.greeted g.K.Keeper.listed g.K.Keeper.placed g.K.Keeper.passed g.K.Keeper.marked g.K.Keeper.kept)
      l.fn.self.config (long ++ short) (server l.fn.self.slots.items l.fn.keeper) (server l.self.slots.items l.keeper) ordered;
  orders : l.orders.items ≡ orders_after l.fn.orders.items ordered;
  config : l.self.config ≡ l.fn.self.config;
  counts : Counts l.self.config l.self.waiting l.self.slots.items;
}

abbrev pub decreases-loop-report : goal.decreases-loop-report
decreases-loop-report g l = length l.rest
