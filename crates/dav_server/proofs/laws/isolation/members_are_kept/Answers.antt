use Rattle.dav_server.proofs.MembershipLemmas.{members_are_kept, members_are_kept_cut}
use Rattle.dav_server.proofs.laws.isolation.members_are_kept.Goals as goal

pub returns-clause-step : goal.returns-clause-step
returns-clause-step c = members_are_kept

pub returns-clause-cut : goal.returns-clause-cut
returns-clause-cut c = members_are_kept_cut
