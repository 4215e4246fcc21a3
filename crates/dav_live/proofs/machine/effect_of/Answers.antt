use Rattle.dav_live.proofs.machine.effect_of.Goals as goal

pub returns-then-leaves : goal.returns-then-leaves
returns-then-leaves c = λ bytes is left. (c.leaves.ensures bytes is).0 c.if-leaves.true
