use Rattle.dav_server.proofs.NotModified.{not_modified_is_true}
use Rattle.dav_server.proofs.laws.not_modified_is_true.Goals as goal

pub returns : goal.returns
returns c = not_modified_is_true
