use Rattle.dav_presented.proofs.SentLemmas.{shown_may_be_sent}
use Rattle.dav_presented.proofs.laws.shown_may_be_sent.Goals as goal

pub returns : goal.returns
returns c = shown_may_be_sent
