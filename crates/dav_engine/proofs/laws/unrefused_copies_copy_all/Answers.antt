use Rattle.dav_engine.proofs.UnrefusedCopies.{unrefused_copies_copy_all}
use Rattle.dav_engine.proofs.laws.unrefused_copies_copy_all.Goals as goal

pub returns : goal.returns
returns c = unrefused_copies_copy_all
