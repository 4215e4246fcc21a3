use Rattle.std.proofs.Common.{◌≡◌, ◌∙◌, ap, None, replicate, arith, ℕ}
use Rattle.dav_turns.proofs.table.Table.new.Goals as goal

pub returns-clause-slots : goal.returns-clause-slots
returns-clause-slots c =
    let all : c.loop.counter ≡ 4096 = omega (arith, c.loop-test.false, c.loop.auto.counter-end) in
    c.loop.invariant ∙ ap (λ (n : ℕ). replicate n None) all
