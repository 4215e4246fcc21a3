use Rattle.dav_headers.proofs.Theorems.{content_range_again, content_length_again}
use Rattle.dav_headers.proofs.laws.lengths_are_read_again.Goals as goal

pub returns : goal.returns
returns c = record { range = content_range_again; length = content_length_again }
