use Rattle.dav_headers.proofs.LawLemmas.{depth_again, one_depth}
use Rattle.dav_headers.proofs.laws.depth_is_read_again.Goals as goal

pub returns : goal.returns
returns c = record { again = depth_again; one = one_depth }
