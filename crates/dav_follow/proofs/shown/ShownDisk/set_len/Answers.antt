use Rattle.dav_follow.proofs.ShownLemmas.{cut_none}
use Rattle.dav_follow.proofs.shown.ShownDisk.set_len.Goals as goal

pub returns-clause-crash : goal.returns-clause-crash
returns-clause-crash c left may = (left, may, cut_none _ left)
