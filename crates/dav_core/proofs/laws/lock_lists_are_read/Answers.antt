use Rattle.dav_core.proofs.ListedLocks.{unlock_takes_one, refresh_changes_one}
use Rattle.dav_core.proofs.CoveringLocks.{discovered_are_covering}
use Rattle.dav_core.proofs.laws.lock_lists_are_read.Goals as goal

pub returns : goal.returns
returns c = record { discovered = discovered_are_covering; unlocked = unlock_takes_one; refreshed = refresh_changes_one }
