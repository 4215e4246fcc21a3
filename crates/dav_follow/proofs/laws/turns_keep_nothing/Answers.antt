use Rattle.dav_follow.proofs.BehindLemmas.{turns_keep_nothing}
use Rattle.dav_follow.proofs.laws.turns_keep_nothing.Goals as goal

pub returns : goal.returns
returns g c = turns_keep_nothing g.K.Answerer.judges g.K.Answerer.answers g.K.Keeper.greeted g.K.Keeper.listed g.K.Keeper.placed g.K.Keeper.passed g.K.Replays.is_at_rest
