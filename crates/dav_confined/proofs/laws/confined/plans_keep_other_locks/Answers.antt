use Rattle.dav_confined.proofs.ConfinedPlans.{copymove_keeps_other_locks, delete_keeps_other_locks, unlock_keeps_other_locks}
use Rattle.dav_confined.proofs.laws.confined.plans_keep_other_locks.Goals as goal

pub returns-clause-delete : goal.returns-clause-delete
returns-clause-delete c = delete_keeps_other_locks

pub returns-clause-copy_move : goal.returns-clause-copy_move
returns-clause-copy_move c = copymove_keeps_other_locks

pub returns-clause-unlock : goal.returns-clause-unlock
returns-clause-unlock c = unlock_keeps_other_locks
