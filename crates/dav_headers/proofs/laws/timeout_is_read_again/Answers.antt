use Rattle.dav_headers.proofs.LawLemmas.{one_timeout}
use Rattle.dav_headers.proofs.TimeoutAgain.{timeout_again}
use Rattle.dav_headers.proofs.laws.timeout_is_read_again.Goals as goal

pub returns : goal.returns
returns c = record { again = timeout_again; one = one_timeout }
