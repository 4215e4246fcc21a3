use Rattle.std.proofs.Common.{sym, ap, ◌∙◌, ◌-◌}
use Rattle.std.specs.Option.{is_some}
use Rattle.dav_store.proofs.SeatLemmas.{count_lacking, count_nowhere, one_less, none_less}
use Rattle.dav_store.proofs.memls.index.Counts.lower.Goals as goal

pub returns-in_default-seat-clause-counts : goal.returns-in_default-seat-clause-counts
returns-in_default-seat-clause-counts c q here =
    none_less c.args.self.now c.args.kind q (count_lacking c.args.self.now c.args.kind q c.in-Some.id (sym here ∙ c.in-Some.is) (sym c.seat.ensures ∙ c.in_default-seat.is))

pub returns-in_default-clause-counts : goal.returns-in_default-clause-counts
returns-in_default-clause-counts c q here = none_less c.args.self.now c.args.kind q (count_nowhere c.args.self.now c.args.kind q (sym here ∙ c.in_default.is))

pub returns-in-Some-seat-clause-walks : goal.returns-in-Some-seat-clause-walks
returns-in-Some-seat-clause-walks c = c.set.ensures.walks (ap is_some (sym c.in-Some-seat.ensures))

pub returns-in-Some-seat-clause-counts : goal.returns-in-Some-seat-clause-counts
returns-in-Some-seat-clause-counts c q here =
    let at = sym here ∙ c.in-Some.is in
    one_less c.args.self.now c.set.new.self c.args.kind q c.in-Some.id c.in-Some-seat.seat c.with.result at (sym c.in-Some-seat.ensures)
    (c.set.ensures.counts (ap is_some (sym c.in-Some-seat.ensures)) q at) c.lowered.result.count
    (c.lowered.ensures ∙ ap (λ n. n - 1) c.of.ensures) c.with.ensures
