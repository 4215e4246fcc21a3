use Rattle.dav_server.proofs.HeadLemmas.{one_head}
use Rattle.dav_server.proofs.laws.heads_say_one_thing.Goals as goal

pub returns : goal.returns
returns c = one_head
