use Rattle.dav_http.proofs.OneAnswer.{steps_are_one}
use Rattle.dav_http.proofs.laws.steps_are_one.Goals as goal

pub returns : goal.returns
returns c = steps_are_one
