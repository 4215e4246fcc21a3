use Rattle.dav_wire.proofs.LawAnswers.{heads_stand_alone}
use Rattle.dav_wire.proofs.laws.heads_stand_alone.Goals as goal

pub returns : goal.returns
returns c = heads_stand_alone
