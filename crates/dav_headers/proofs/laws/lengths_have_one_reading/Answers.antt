use Rattle.dav_headers.proofs.OneReading.{one_content_range, one_content_length}
use Rattle.dav_headers.proofs.laws.lengths_have_one_reading.Goals as goal

pub returns : goal.returns
returns c = record { range = one_content_range; length = one_content_length }
