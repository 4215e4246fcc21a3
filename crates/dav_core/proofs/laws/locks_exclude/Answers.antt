use Rattle.dav_core.proofs.SharedLemmas.{none_are_shared, granted_are_shared, unlocked_are_shared, refreshed_are_shared, deleted_are_shared}
use Rattle.dav_core.proofs.laws.locks_exclude.Goals as goal

pub returns : goal.returns
returns c = record { none = none_are_shared; granted = granted_are_shared; unlocked = unlocked_are_shared; refreshed = refreshed_are_shared; deleted = deleted_are_shared }
