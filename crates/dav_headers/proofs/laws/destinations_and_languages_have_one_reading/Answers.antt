use Rattle.dav_headers.proofs.Theorems.{one_destination, one_language_list}
use Rattle.dav_headers.proofs.laws.destinations_and_languages_have_one_reading.Goals as goal

pub returns : goal.returns
returns c = record { destination = one_destination; languages = one_language_list }
