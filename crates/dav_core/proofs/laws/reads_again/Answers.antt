use Rattle.dav_core.proofs.UrlLemmas.{reads_again, names_again}
use Rattle.dav_core.proofs.laws.reads_again.Goals as goal

pub returns : goal.returns
returns c = record { read = reads_again; names = names_again }
