use Rattle.dav_store.proofs.TreeClimbs.{climbs_far_enough}
use Rattle.dav_store.proofs.laws.climbs_are_far_enough.Goals as goal

-- src/laws.rt
pub returns : goal.returns
returns g c = climbs_far_enough _ _
