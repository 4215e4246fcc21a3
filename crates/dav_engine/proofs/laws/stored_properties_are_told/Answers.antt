use Rattle.dav_engine.proofs.StoredLemmas.{set_is_kept, patched_is_kept, kept_is_told}
use Rattle.dav_engine.proofs.laws.stored_properties_are_told.Goals as goal

pub returns : goal.returns
returns c = record { set = set_is_kept; patched = patched_is_kept; told = kept_is_told }
