use Rattle.dav_server.proofs.IsolationLemmas as isolation
use Rattle.dav_server.proofs.laws.isolation.holders_are_alone.Goals as goal

pub returns : goal.returns
returns c = isolation.holders_are_alone
