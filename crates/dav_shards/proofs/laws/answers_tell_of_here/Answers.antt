use Rattle.dav_shards.proofs.LawLemmas.{answers_tell_of_here}
use Rattle.dav_shards.proofs.laws.answers_tell_of_here.Goals as goal

pub returns : goal.returns
returns c = answers_tell_of_here c.requests_tell_what_they_read.ensures.alike
