use Rattle.dav_confined.proofs.GrantedLemmas.{answers_stay_in_grants}
use Rattle.dav_confined.proofs.laws.granted.answers_stay_in_grants.Goals as goal

pub returns : goal.returns
returns c = answers_stay_in_grants
