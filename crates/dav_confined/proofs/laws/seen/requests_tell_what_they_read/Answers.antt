use Rattle.dav_confined.proofs.SeenGet.{get_reads_seen}
use Rattle.dav_confined.proofs.StepsSeen.{steps_answer_alike}
use Rattle.dav_confined.proofs.laws.seen.requests_tell_what_they_read.Goals as goal

pub returns-clause-get : goal.returns-clause-get
returns-clause-get c = get_reads_seen

pub returns-clause-alike : goal.returns-clause-alike
returns-clause-alike c = steps_answer_alike
