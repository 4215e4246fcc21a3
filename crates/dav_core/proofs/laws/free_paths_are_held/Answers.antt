use Rattle.dav_core.proofs.LockLemmas.{free_holds_exclusive, free_holds_own, free_deep_holds_below, free_is_no_conflict, granted_can_be_unlocked, taken_back}
use Rattle.dav_core.proofs.laws.free_paths_are_held.Goals as goal

pub returns : goal.returns
returns c = record { exclusive = free_holds_exclusive; own = free_holds_own; below = free_deep_holds_below; conflict = free_is_no_conflict; granted = granted_can_be_unlocked; back = taken_back }
