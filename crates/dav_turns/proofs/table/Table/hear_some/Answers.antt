use Rattle.std.proofs.Common.{List, length, length-append, arith, [], ◌++◌, refl, ap, ◌∙◌, sym, subst, inl, inr}
use Rattle.dav_turns.specs.declared.config.TurnsConfig.{TurnsConfig}
use Rattle.dav_turns.specs.Frames.{IsReport, ReportView, report_bytes, report_view}
use Rattle.std.specs.List.{flat_map}
use Rattle.std.proofs.lemmas.List.Elements.{All-nil}
use Rattle.dav_turns.specs.Turns.{keeping, server, Heard, HeardAll}
use Rattle.std.proofs.lemmas.Result.{err_from_is_err_and}
use Rattle.dav_turns.proofs.TurnLemmas.{reads_as, reads_on, hears_on, orders_on, no_order, no_run, runs_on}
use Rattle.dav_turns.proofs.table.Table.hear_some.Goals as goal

pub returns-in-Wrong-clause-pipe : goal.returns-in-Wrong-clause-pipe
returns-in-Wrong-clause-pipe g c = λ _.
    let before = c.loop-report.invariant in
    record {
      reports = before.long ++ before.short;
      rest = c.loop-report.rest.now;
      reads = before.reads;
      new = server c.loop-report.self.slots.items c.loop-report.keeper;
      orders = before.ordered;
      heard = before.heard;
      broken = inl c.in-Wrong.ensures;
    }

pub returns-in_err-hear-in-Whole-clause-pipe : goal.returns-in_err-hear-in-Whole-clause-pipe
returns-in_err-hear-in-Whole-clause-pipe g c = λ is.
    let before = c.loop-report.invariant in
    let error = err_from_is_err_and c.from_residual.result c.from_residual.ensures.1 in
    record {
      reports = before.long ++ before.short;
      rest = c.loop-report.rest.now;
      reads = before.reads;
      new = server c.loop-report.self.slots.items c.loop-report.keeper;
      orders = before.ordered;
      heard = before.heard;
      broken = inr (report_view c.in-Whole.report, c.in-Whole.ensures, c.in_err-hear-in-Whole.ensures.pipe (cc (error.1, error.2, is)));
    }

pub loop-report-init : goal.loop-report-init
loop-report-init g c = record {
  long = [];
  short = [];
  ordered = [];
  run = no_run;
  reads = record { are = All-nil IsReport; bytes_are = refl };
  heard = (refl, refl);
  orders = no_order c.args.orders.now.items;
  config = refl;
  counts = c.requires;
}

pub returns-then-is_short-clause-hears : goal.returns-then-is_short-clause-hears
returns-then-is_short-clause-hears g c =
    let before = c.loop-report.invariant in (
      before.ordered,
      record {
        long = before.long;
        short = before.short;
        are_long = before.run.are_long;
        are_short = before.run.are_short;
        rest = c.loop-report.rest.now;
        reads = before.reads;
        left = inr (before.run.some c.if-is_short.true, (report_view c.in-Whole.report, c.in-Whole.ensures, sym c.may_take_long-is_long.ensures ∙ c.if-is_long.true));
        used_is = omega (arith, ap length before.reads.bytes_are, length-append (flat_map report_bytes (before.long ++ before.short)) c.loop-report.rest.now);
        heard = before.heard;
      },
      before.orders,
    )

pub loop-report-preserved : goal.loop-report-preserved
loop-report-preserved g c =
    let before = c.loop-report.invariant in
    let t = report_view c.in-Whole.report in
    let k = keeping g.K.Answerer.judges g.K.Answerer.answers g.K.Keeper.greeted g.K.Keeper.listed g.K.Keeper.placed g.K.Keeper.passed g.K.Keeper.marked g.K.Keeper.kept in
    let did = c.in_ok-hear-in-Whole.ensures.heard in
    let was = server c.loop-report.self.slots.items c.loop-report.keeper in
    let now = server c.hear.new.self.slots.items c.hear.new.keeper in
    let reports = before.long ++ before.short in
    let more = runs_on before.long before.short t _ _ c.may_take_long-is_long.ensures c.else-is_long.either before.run in
    record {
      long = more.longs;
      short = more.shorts;
      ordered = before.ordered ++ did.0;
      run = more.run;
      reads = reads_as c.args.reports.now _ _ _ more.are
          (reads_on c.args.reports.now c.loop-report.rest.now _ reports t before.reads c.in-Whole.ensures refl);
      heard = subst (λ (ts : List ReportView). HeardAll k c.args.self.now.config ts (server c.args.self.now.slots.items c.args.keeper.now) now (before.ordered ++ did.0)) (sym more.are)
          (hears_on k c.args.self.now.config reports t (server c.args.self.now.slots.items c.args.keeper.now) was now before.ordered did.0 before.heard
          (subst (λ (config : TurnsConfig). Heard k config t was now did.0) before.config did.1));
      orders = orders_on c.args.orders.now.items c.loop-report.orders.items c.hear.new.orders.items before.ordered did.0 before.orders did.2;
      config = c.in_ok-hear-in-Whole.ensures.config ∙ before.config;
      counts = c.in_ok-hear-in-Whole.ensures.counts;
    }
