use Rattle.dav_core.proofs.CopyLemmas.{copy_brings, copy_spares_folders, removal_spares_members}
use Rattle.dav_core.proofs.laws.calls.copies_and_removals.Goals as goal

pub returns : goal.returns
returns c = record { brings = copy_brings; spares_folders = copy_spares_folders; spares_members = removal_spares_members }
