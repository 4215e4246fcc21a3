use Rattle.std.proofs.Common.{sym, ◌∙◌}
use Rattle.dav_store.proofs.SeatLemmas.{count_at, count_lacking, count_nowhere}
use Rattle.dav_store.proofs.memls.index.Counts.counted.Goals as goal

pub returns-in-Some-seat : goal.returns-in-Some-seat
returns-in-Some-seat c q here = c.of.ensures ∙ sym (count_at c.args.self.now c.args.kind q c.in-Some.id c.in-Some-seat.seat (sym here ∙ c.in-Some.is) (sym c.in-Some-seat.ensures))

pub returns-in-None-seat : goal.returns-in-None-seat
returns-in-None-seat c q here = sym (count_lacking c.args.self.now c.args.kind q c.in-Some.id (sym here ∙ c.in-Some.is) (sym c.in-None-seat.ensures))

pub returns-in-None : goal.returns-in-None
returns-in-None c q here = sym (count_nowhere c.args.self.now c.args.kind q (sym here ∙ c.in-None.is))
