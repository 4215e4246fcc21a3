use Rattle.dav_confined.proofs.ConfinedPlans.{spared_paths_stay, spared_paths_stay_cut}
use Rattle.dav_confined.proofs.laws.confined.spared_paths_stay.Goals as goal

pub returns-clause-stay : goal.returns-clause-stay
returns-clause-stay c = spared_paths_stay

pub returns-clause-cut : goal.returns-clause-cut
returns-clause-cut c = spared_paths_stay_cut
