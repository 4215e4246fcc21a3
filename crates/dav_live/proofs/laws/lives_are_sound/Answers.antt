use Rattle.dav_live.proofs.GrantedLemmas.{lives_are_sound}
use Rattle.dav_live.proofs.laws.lives_are_sound.Goals as goal

pub returns : goal.returns
returns c = lives_are_sound
