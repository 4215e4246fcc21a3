use Rattle.std.proofs.Common.{refl}
use Rattle.dav_live.proofs.machine.left_only.Goals as goal

pub returns-then-leaves : goal.returns-then-leaves
returns-then-leaves c = c.if-leaves.ensures.0 refl
