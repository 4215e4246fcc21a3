use Rattle.dav_kept.proofs.LifeLemmas.{lives_are_runs}
use Rattle.dav_kept.proofs.laws.lives_are_runs.Goals as goal

pub returns : goal.returns
returns g c = lives_are_runs g.H.Handles.answers g.H.Handles.saved g.H.Handles.is_saveable g.H.Handles.loads g.met.H.Handles.loads_what_was_saved
