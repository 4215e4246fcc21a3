use Rattle.std.proofs.Common.{rules}
use Rattle.dav_journal.specs.Block.{twice}
use Rattle.dav_journal.proofs.block.twice_bytes.Goals as goal

pub returns : goal.returns
unfolding twice
returns c = search rules
