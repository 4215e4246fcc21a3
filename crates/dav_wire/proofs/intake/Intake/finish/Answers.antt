use Rattle.std.proofs.Common.{rules, refl, arith}
use Rattle.dav_wire.proofs.Events.{handed_over, end_judged, end_less}
use Rattle.dav_wire.proofs.intake.Intake.finish.Goals as goal

pub returns-clause-finds : goal.returns-clause-finds
returns-clause-finds c = λ stream interim before fits x. (
  handed_over x _ _ _ _ _ c.len.ensures.value c.in_ok-head.ensures.front (search rules) (search rules) refl,
  end_judged x _ _ c.len.ensures.value c.in_ok-head.ensures.front,
  omega (arith, end_less x, fits),
)
