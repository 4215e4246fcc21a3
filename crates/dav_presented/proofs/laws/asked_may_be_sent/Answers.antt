use Rattle.dav_presented.proofs.SentLemmas.{asked_may_be_sent}
use Rattle.dav_presented.proofs.laws.asked_may_be_sent.Goals as goal

pub returns : goal.returns
returns c = asked_may_be_sent
