use Rattle.dav_access.proofs.RuleLemmas.{rights_are_ordered, rights_reach_down, grants_add}
use Rattle.dav_access.proofs.laws.rights_are_plain.Goals as goal

pub returns-clause-ordered : goal.returns-clause-ordered
returns-clause-ordered c = rights_are_ordered

pub returns-clause-down : goal.returns-clause-down
returns-clause-down c = rights_reach_down

pub returns-clause-add : goal.returns-clause-add
returns-clause-add c = grants_add
