use Rattle.dav_engine.proofs.TakingLemmas.{gathered_by}
use Rattle.dav_engine.proofs.methods.propfind.gathered.Goals as goal

pub returns-in-Some : goal.returns-in-Some
returns-in-Some c = λ whole handed. gathered_by c.with_tree.ensures (rw c.in-Some.is at handed)
