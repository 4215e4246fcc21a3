use Rattle.dav_live.proofs.VerdictLemmas.{plain_reads_may_go_on}
use Rattle.dav_live.proofs.laws.plain_reads_may_go_on.Goals as goal

pub returns : goal.returns
returns c = plain_reads_may_go_on
