use Rattle.dav_server.proofs.ErrorLemmas.{errors_leave}
use Rattle.dav_server.proofs.laws.errors_leave_all.Goals as goal

pub returns : goal.returns
returns c = errors_leave
