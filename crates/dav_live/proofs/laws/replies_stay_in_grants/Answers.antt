use Rattle.dav_live.proofs.GrantedLemmas.{replies_stay_in_grants}
use Rattle.dav_live.proofs.laws.replies_stay_in_grants.Goals as goal

pub returns : goal.returns
returns c = replies_stay_in_grants
