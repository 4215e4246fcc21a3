use Rattle.dav_live.proofs.Restarts.{first_days_begin}
use Rattle.dav_live.proofs.laws.first_days_begin.Goals as goal

pub returns : goal.returns
returns g c = first_days_begin g.J.Keeps.has_read
