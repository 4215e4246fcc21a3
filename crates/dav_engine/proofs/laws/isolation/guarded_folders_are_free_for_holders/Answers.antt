use Rattle.dav_engine.proofs.GuardedFolders.{free_is_held, free_is_apart, parent_free_is_held}
use Rattle.dav_engine.proofs.laws.isolation.guarded_folders_are_free_for_holders.Goals as goal

pub returns-clause-held : goal.returns-clause-held
returns-clause-held c = free_is_held

pub returns-clause-apart : goal.returns-clause-apart
returns-clause-apart c = free_is_apart

pub returns-clause-parent : goal.returns-clause-parent
returns-clause-parent c = parent_free_is_held
