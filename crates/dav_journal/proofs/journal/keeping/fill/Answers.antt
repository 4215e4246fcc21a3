use Rattle.std.proofs.Common.{◌≡◌, ◌<◌, ◌∙◌, ℕ, List, length, slice_index, ap, arith}
use Rattle.dav_journal.proofs.WriteLemmas.{below_then, zero_part, zeros_more}
use Rattle.dav_journal.proofs.journal.keeping.fill.Goals as goal

pub loop-preserved : goal.loop-preserved
loop-preserved g c = record {
  low = omega (arith, c.loop.invariant.low, c.saturating_add-at.ensures);
  step = λ n low left may.
      let (mid, was, torn) = c.write_at.ensures.crash left may in
      let (before, first, same) = c.loop.invariant.step n low mid was in
      (before, first, below_then n c.loop.at _ before mid left (omega (arith, low, c.loop.invariant.low)) same torn);
  others = λ n low. below_then n c.loop.at _ _ _ _ (omega (arith, low, c.loop.invariant.low)) (c.loop.invariant.others n low) c.write_at.ensures.others;
  clean = λ is. c.loop.invariant.clean (c.write_at.ensures.clean is);
  zeros = λ inside.
      let is = c.in-Some.ensures.lookup.0.2 in
      let long : length c.in-Some.piece.now ≡ c.min-count.result = omega (arith, c.in-Some.ensures.lookup.0.3) in
      let none : (i : ℕ) → i < length c.in-Some.piece.now → slice_index c.in-Some.piece.now i ≡ 0 = λ i low. ap (λ (l : List ℕ). slice_index l i) is ∙ zero_part 65536 0 c.min-count.result i in
      zeros_more c.args.from c.loop.at c.in-Some.piece.now _ _ c.saturating_add-at.result (c.loop.invariant.zeros inside) c.write_at.ensures.others (c.in-Ok.ensures.written (omega (arith, long, c.if-count-eq0.false))) none (omega (arith, long, c.saturating_add-at.ensures));
}

pub returns-in_default-write_at-clause-crash : goal.returns-in_default-write_at-clause-crash
returns-in_default-write_at-clause-crash g c n low left may =
    let (mid, was, torn) = c.write_at.ensures.crash left may in
    let (before, first, same) = c.loop.invariant.step n low mid was in
    (before, first, below_then n c.loop.at _ before mid left (omega (arith, low, c.loop.invariant.low)) same torn)

pub returns-in_default-write_at-clause-others : goal.returns-in_default-write_at-clause-others
returns-in_default-write_at-clause-others g c n low =
    below_then n c.loop.at _ _ _ _ (omega (arith, low, c.loop.invariant.low)) (c.loop.invariant.others n low) c.write_at.ensures.others
