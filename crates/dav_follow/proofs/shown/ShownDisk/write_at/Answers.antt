use Rattle.dav_follow.proofs.ShownLemmas.{torn_none}
use Rattle.dav_follow.proofs.shown.ShownDisk.write_at.Goals as goal

pub returns-clause-crash : goal.returns-clause-crash
returns-clause-crash c left may = (left, may, torn_none _ _ left)
