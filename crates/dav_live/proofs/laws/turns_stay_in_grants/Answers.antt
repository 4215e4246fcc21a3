use Rattle.dav_live.proofs.GrantedLemmas.{turns_stay_in_grants, turns_stay_sound}
use Rattle.dav_live.proofs.laws.turns_stay_in_grants.Goals as goal

pub returns-clause-elsewhere : goal.returns-clause-elsewhere
returns-clause-elsewhere g c = turns_stay_in_grants g.D.Disk

pub returns-clause-sound : goal.returns-clause-sound
returns-clause-sound g c = turns_stay_sound g.D.Disk
