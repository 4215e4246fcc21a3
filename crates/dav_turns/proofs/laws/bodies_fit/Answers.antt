use Rattle.dav_turns.specs.Turns.{keeping}
use Rattle.dav_turns.proofs.RoomLemmas as rooms
use Rattle.dav_turns.proofs.laws.bodies_fit.Goals as goal

pub returns : goal.returns
returns g c =
    rooms.bodies_fit (keeping g.K.Answerer.judges g.K.Answerer.answers g.K.Keeper.greeted g.K.Keeper.listed g.K.Keeper.placed g.K.Keeper.passed g.K.Keeper.marked g.K.Keeper.kept)
