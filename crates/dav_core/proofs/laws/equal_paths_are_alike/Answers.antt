use Rattle.dav_core.proofs.EqualLemmas.{equal_to_itself, equal_both_ways, equal_through}
use Rattle.dav_core.proofs.laws.equal_paths_are_alike.Goals as goal

pub returns : goal.returns
returns c = record { reflexive = equal_to_itself; symmetric = equal_both_ways; transitive = equal_through }
