use Rattle.dav_turns.specs.Turns.{keeping}
use Rattle.dav_turns.proofs.StreamLemmas.{streams_are_turns}
use Rattle.dav_turns.proofs.laws.streams_are_turns.Goals as goal

pub returns : goal.returns
returns g c =
    streams_are_turns (keeping g.K.Answerer.judges g.K.Answerer.answers g.K.Keeper.greeted g.K.Keeper.listed g.K.Keeper.placed g.K.Keeper.passed g.K.Keeper.marked g.K.Keeper.kept)
