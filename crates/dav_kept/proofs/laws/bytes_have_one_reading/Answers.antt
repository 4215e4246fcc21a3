use Rattle.dav_kept.proofs.KeptLemmas.{one_reading}
use Rattle.dav_kept.proofs.laws.bytes_have_one_reading.Goals as goal

pub returns : goal.returns
returns c = one_reading
