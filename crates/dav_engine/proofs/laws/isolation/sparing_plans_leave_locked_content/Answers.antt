use Rattle.dav_engine.proofs.SparingLaw.{sparing_leaves_covered, sparing_leaves_covered_cut, sparing_leaves_inside}
use Rattle.dav_engine.proofs.laws.isolation.sparing_plans_leave_locked_content.Goals as goal

pub returns-clause-covered : goal.returns-clause-covered
returns-clause-covered c = sparing_leaves_covered

pub returns-clause-inside : goal.returns-clause-inside
returns-clause-inside c = sparing_leaves_inside

pub returns-clause-cut : goal.returns-clause-cut
returns-clause-cut c = sparing_leaves_covered_cut
