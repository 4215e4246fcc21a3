use Rattle.dav_engine.proofs.WorldAnswers.{plans_remember}
use Rattle.dav_engine.proofs.laws.numbers_tell_bytes.Goals as goal

pub returns : goal.returns
returns c = plans_remember
