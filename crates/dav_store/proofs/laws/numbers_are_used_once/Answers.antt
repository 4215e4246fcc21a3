use Rattle.dav_store.proofs.TreeNumbers.{begins_at_the_root, adds_the_next_number, keeps_numbers}
use Rattle.dav_store.proofs.laws.numbers_are_used_once.Goals as goal

-- src/laws.rt
pub returns-clause-begins : goal.returns-clause-begins
returns-clause-begins g c = begins_at_the_root _ _

pub returns-clause-added : goal.returns-clause-added
returns-clause-added g c = adds_the_next_number _ _

pub returns-clause-kept : goal.returns-clause-kept
returns-clause-kept g c = keeps_numbers _ _
