use Rattle.dav_presented.proofs.OwnLemmas.{no_time_is_forged}
use Rattle.dav_presented.proofs.laws.no_time_is_forged.Goals as goal

pub returns : goal.returns
returns c = no_time_is_forged
