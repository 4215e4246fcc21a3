use Rattle.dav_confined.proofs.SeenLemmas.{if_reads_seen, options_reads_seen, readers_agree}
use Rattle.dav_confined.proofs.SeenPropfind.{propfind_reads_seen}
use Rattle.dav_confined.proofs.laws.seen.readers_agree.Goals as goal

pub returns-clause-agree : goal.returns-clause-agree
returns-clause-agree c = readers_agree

pub returns-clause-options : goal.returns-clause-options
returns-clause-options c = options_reads_seen

pub returns-clause-conditions : goal.returns-clause-conditions
returns-clause-conditions c = if_reads_seen

pub returns-clause-propfind : goal.returns-clause-propfind
returns-clause-propfind c = propfind_reads_seen
