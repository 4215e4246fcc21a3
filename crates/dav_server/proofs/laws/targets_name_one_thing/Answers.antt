use Rattle.dav_server.proofs.TargetLemmas.{one_outcome}
use Rattle.dav_server.proofs.laws.targets_name_one_thing.Goals as goal

pub returns : goal.returns
returns c = one_outcome
