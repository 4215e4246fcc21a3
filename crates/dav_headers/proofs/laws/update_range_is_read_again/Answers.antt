use Rattle.dav_headers.proofs.LawLemmas.{update_range_again, one_update_range}
use Rattle.dav_headers.proofs.laws.update_range_is_read_again.Goals as goal

pub returns : goal.returns
returns c = record { again = update_range_again; one = one_update_range }
