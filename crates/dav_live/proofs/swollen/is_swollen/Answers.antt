use Rattle.std.proofs.Common.{◌≤◌, ◌<◌, ◌+◌, inl, inr, ℕ, true≢false, arith, sym, subst, ◌∙◌}
use Rattle.std.proofs.Math.Nat.{eq-or-lt_of_le}
use Rattle.dav_live.specs.Swollen.{IsSwollenAt}
use Rattle.dav_live.proofs.swollen.is_swollen.Goals as goal

after : (k p : ℕ) → k < p → k + 1 ≤ p
after k p less = omega (arith, less)

pub loop-place-preserved : goal.loop-place-preserved
loop-place-preserved c s =
    elim (eq-or-lt_of_le (c.loop-place.invariant s)) [
      | inl same ↦ absurd (true≢false (sym (c.is_swollen_at.ensures.1 (
          subst (λ (p : ℕ). IsSwollenAt c.args.bytes.now p c.marks-marks.result) (sym same)
          (subst (IsSwollenAt c.args.bytes.now s.place) (sym c.marks-marks.ensures) s.swollen))) ∙ c.if-is_swollen_at.false))
      | inr less ↦ after c.loop-place.place s.place less
    ]

pub returns : goal.returns
returns c = (
  λ never. absurd (true≢false (sym never)),
  λ s. absurd (omega (arith, c.loop-place.invariant s, s.within, c.loop-place-test.false)),
)
