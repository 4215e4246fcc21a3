use Rattle.dav_engine.proofs.GrantLemmas.{granted_guards, shared_guards, folders_are_above}
use Rattle.dav_engine.proofs.laws.isolation.granted_locks_guard_their_folders.Goals as goal

pub returns-clause-guards : goal.returns-clause-guards
returns-clause-guards c = granted_guards

pub returns-clause-above : goal.returns-clause-above
returns-clause-above c = folders_are_above

pub returns-clause-shared : goal.returns-clause-shared
returns-clause-shared c = shared_guards
