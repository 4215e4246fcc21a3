use Rattle.dav_headers.proofs.LawLemmas.{overwrite_again, one_overwrite}
use Rattle.dav_headers.proofs.laws.overwrite_is_read_again.Goals as goal

pub returns : goal.returns
returns c = record { again = overwrite_again; one = one_overwrite }
