use Rattle.std.proofs.Common.{sym, ap, ◌∙◌, ◌+◌}
use Rattle.std.specs.Option.{is_some}
use Rattle.dav_store.proofs.SeatLemmas.{one_more}
use Rattle.dav_store.proofs.memls.index.Counts.raise.Goals as goal

pub returns-clause-walks : goal.returns-clause-walks
returns-clause-walks c = c.set.ensures.walks (ap is_some (sym c.in-Some.ensures))

pub returns-clause-counts : goal.returns-clause-counts
returns-clause-counts c q at =
    one_more c.args.self.now c.set.new.self c.args.kind q c.args.id c.in-Some.seat c.with.result at (sym c.in-Some.ensures)
    (c.set.ensures.counts (ap is_some (sym c.in-Some.ensures)) q at) c.in-Some-raised.counted.count
    (c.in-Some-raised.ensures ∙ ap (λ n. n + 1) c.of.ensures) c.with.ensures
