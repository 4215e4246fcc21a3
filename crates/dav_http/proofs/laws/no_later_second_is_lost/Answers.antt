use Rattle.dav_http.proofs.RefusedLemmas.{no_later_second_is_lost}
use Rattle.dav_http.proofs.laws.no_later_second_is_lost.Goals as goal

pub returns : goal.returns
returns c = no_later_second_is_lost
