use Rattle.dav_core.proofs.MethodLemmas.{has_removed}
use Rattle.dav_core.proofs.method.DavMethodSet.remove.Goals as goal

pub returns : goal.returns
returns c = λ m. rw (← c.self.view_is, c.bit.ensures) (has_removed c.self.inside.0 c.args.method m)
