use Rattle.dav_core.proofs.MethodLemmas.{has_added}
use Rattle.dav_core.proofs.method.DavMethodSet.add.Goals as goal

pub returns : goal.returns
returns c = λ m. rw (← c.self.view_is, c.bit.ensures) (has_added c.self.inside.0 c.args.method m)
