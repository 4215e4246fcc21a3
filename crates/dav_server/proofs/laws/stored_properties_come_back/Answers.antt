use Rattle.dav_server.proofs.StoredLemmas.{patches_are_made, stored_comes_back}
use Rattle.dav_server.proofs.laws.stored_properties_come_back.Goals as goal

pub returns : goal.returns
returns c = record { patched = patches_are_made; told = stored_comes_back }
