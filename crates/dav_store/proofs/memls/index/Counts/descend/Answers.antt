use Rattle.std.proofs.Common.{sym, ◌∙◌}
use Rattle.dav_store.proofs.TreePaths.{found-push}
use Rattle.dav_store.proofs.memls.index.Counts.descend.Goals as goal

pub returns-in-Some-clause-walks : goal.returns-in-Some-clause-walks
returns-in-Some-clause-walks c q at = found-push c.args.self.now q c.args.parent c.args.name.now at ∙ sym c.in-Some.ensures
