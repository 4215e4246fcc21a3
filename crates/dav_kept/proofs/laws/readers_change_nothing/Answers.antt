use Rattle.dav_kept.proofs.LifeLemmas.{readers_change_nothing}
use Rattle.dav_kept.proofs.laws.readers_change_nothing.Goals as goal

pub returns : goal.returns
returns g c = readers_change_nothing g.H.Handles.answers g.H.Handles.loads
