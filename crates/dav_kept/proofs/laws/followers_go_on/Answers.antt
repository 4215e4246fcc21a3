use Rattle.dav_kept.proofs.LifeLemmas.{followers_go_on}
use Rattle.dav_kept.proofs.laws.followers_go_on.Goals as goal

pub returns : goal.returns
returns g c = followers_go_on g.H.Handles.answers g.H.Handles.loads
