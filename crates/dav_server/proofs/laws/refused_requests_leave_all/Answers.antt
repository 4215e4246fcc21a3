use Rattle.dav_server.proofs.RefusedLemmas.{refused_leaves}
use Rattle.dav_server.proofs.laws.refused_requests_leave_all.Goals as goal

pub returns : goal.returns
returns c = refused_leaves
