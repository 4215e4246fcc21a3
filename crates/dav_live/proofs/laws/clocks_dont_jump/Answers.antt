use Rattle.dav_live.proofs.ClockLemmas.{clocks_dont_jump}
use Rattle.dav_live.proofs.laws.clocks_dont_jump.Goals as goal

pub returns : goal.returns
returns c = clocks_dont_jump
