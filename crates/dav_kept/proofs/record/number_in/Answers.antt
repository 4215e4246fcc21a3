use Rattle.std.proofs.Common.{arith}
use Rattle.dav_kept.proofs.RecordLemmas.{number_read}
use Rattle.dav_kept.proofs.record.number_in.Goals as goal

pub returns : goal.returns
returns c =
    number_read c.args.bytes.now c.in_ok-front.front.now c.in_ok-get.field-0.now c.number.result
    (λ i. (c.type_inv.bytes i).fits) c.in_ok-front.ensures.lookup.0.2 (omega (arith, c.in_ok-front.ensures.lookup.0.3)) (c.number.ensures (omega (arith, c.in_ok-front.ensures.lookup.0.3))) c.in_ok-get.ensures.lookup.0.2
