use Rattle.dav_core.proofs.PathLemmas.{same_text}
use Rattle.dav_core.proofs.laws.texts_tell_paths.Goals as goal

pub returns : goal.returns
returns c = same_text
