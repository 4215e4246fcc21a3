use Rattle.dav_http.proofs.ShownLemmas.{shown_is_read_again}
use Rattle.dav_http.proofs.laws.shown_is_read_again.Goals as goal

pub returns : goal.returns
returns c = shown_is_read_again
