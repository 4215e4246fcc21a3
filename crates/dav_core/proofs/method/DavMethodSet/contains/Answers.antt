use Rattle.dav_core.proofs.MethodLemmas.{has_tested}
use Rattle.dav_core.proofs.method.DavMethodSet.contains.Goals as goal

pub returns : goal.returns
returns c = rw (← c.self.view_is, c.bit.ensures) (has_tested c.self.inside.0 c.args.method)
