use Rattle.std.proofs.Common.{◌+◌, ◌-◌, ◌∙◌, drop, refl, sym, ap, arith}
use Rattle.std.proofs.Math.ListN.{drop_of_length-le}
use Rattle.dav_wire.specs.declared.spot.Spot.TheVariants.{Data}
use Rattle.dav_wire.specs.Spots.{spot_after}
use Rattle.dav_wire.proofs.SpotLemmas.{spot_past, spot_one}
use Rattle.dav_wire.proofs.spot.Spot.after.Goals as goal

pub loop-at-init : goal.loop-at-init
loop-at-init c = (omega arith, refl)

pub loop-at-preserved-then-data-gt0 : goal.loop-at-preserved-then-data-gt0
loop-at-preserved-then-data-gt0 c =
    let xs = c.args.bytes.now in
    let count = c.min-data.result in
    let past =
    spot_past xs c.loop-at.at count c.loop-at.spot c.if-data-gt0.true (omega (arith, c.min-data.ensures, c.loop-at.invariant.0))
    (omega (arith, c.min-data.ensures, c.to_come.ensures)) in (
      omega (arith, c.min-data.ensures, c.loop-at.invariant.0),
      ap (λ n. spot_after (Data (n - count)) (drop (c.loop-at.at + count) xs)) c.to_come-then-data-gt0.ensures ∙ past ∙ c.loop-at.invariant.1,
    )

pub loop-at-preserved : goal.loop-at-preserved
loop-at-preserved c = (
  omega (arith, c.loop-at-test.true),
  ap (λ s. spot_after s (drop (c.loop-at.at + 1) c.args.bytes.now)) c.next-spot.ensures ∙ spot_one c.args.bytes.now c.loop-at.at c.loop-at.spot c.loop-at-test.true ∙ c.loop-at.invariant.1,
)

pub returns : goal.returns
returns c = sym (ap (spot_after c.loop-at.spot) (drop_of_length-le c.args.bytes.now c.loop-at-test.false)) ∙ c.loop-at.invariant.1
