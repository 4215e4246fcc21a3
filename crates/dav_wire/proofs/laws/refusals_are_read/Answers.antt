use Rattle.dav_wire.proofs.RefusalAnswers.{refusals_are_read}
use Rattle.dav_wire.proofs.laws.refusals_are_read.Goals as goal

pub returns : goal.returns
returns c = refusals_are_read
