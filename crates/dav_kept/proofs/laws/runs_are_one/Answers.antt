use Rattle.dav_kept.proofs.LifeLemmas.{runs_are_one}
use Rattle.dav_kept.proofs.laws.runs_are_one.Goals as goal

pub returns : goal.returns
returns g c = runs_are_one g.H.Handles.answers g.H.Handles.loads
