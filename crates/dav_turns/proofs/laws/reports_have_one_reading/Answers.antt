use Rattle.dav_turns.proofs.Readings.{one_reading}
use Rattle.dav_turns.proofs.laws.reports_have_one_reading.Goals as goal

pub returns : goal.returns
returns c = one_reading
