use Rattle.std.proofs.Common.{arith, sym, ◌∙◌}
use Rattle.dav_presented.proofs.TypeLemmas.{all_of, cut_at}
use Rattle.dav_presented.proofs.types.essence.Goals as goal

pub returns-then-ends_type : goal.returns-then-ends_type
returns-then-ends_type c = cut_at c.loop-i.i c.args.kind.now c.loop-i-test.true c.loop-i.invariant (sym c.ends_type.ensures ∙ c.if-ends_type.true)

pub returns : goal.returns
returns c = all_of c.args.kind.now (λ k lt. c.loop-i.invariant k (omega arith))
