use Rattle.dav_seen.proofs.SightLemmas.{ways_may_be_seen, ways_stay_in_sight}
use Rattle.dav_seen.proofs.laws.ways_stay_in_sight.Goals as goal

pub returns-clause-sight : goal.returns-clause-sight
returns-clause-sight c = ways_stay_in_sight

pub returns-clause-seen : goal.returns-clause-seen
returns-clause-seen c = ways_may_be_seen
