use Rattle.std.proofs.Common.{arith}
use Rattle.dav_presented.proofs.NameLemmas.{all_same}
use Rattle.dav_presented.proofs.names.are_same.Goals as goal

pub returns : goal.returns
returns c = all_same c.args.one.now c.args.other.now (omega (arith, c.if-one-other.false)) (λ k lt. c.loop-i.invariant k (omega (arith, lt, c.loop-i-test.false)))
