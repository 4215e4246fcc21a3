use Rattle.dav_turns.specs.Turns.{keeping}
use Rattle.dav_turns.proofs.RestLemmas.{reads_at_rest}
use Rattle.dav_turns.proofs.laws.reads_are_at_rest.Goals as goal

pub returns : goal.returns
returns g c =
    reads_at_rest (keeping g.K.Answerer.judges g.K.Answerer.answers g.K.Keeper.greeted g.K.Keeper.listed g.K.Keeper.placed g.K.Keeper.passed g.K.Keeper.marked g.K.Keeper.kept)
