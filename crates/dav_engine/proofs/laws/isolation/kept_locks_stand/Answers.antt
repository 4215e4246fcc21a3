use Rattle.dav_engine.proofs.EndingCopy.{copymove_keeps_locks}
use Rattle.dav_engine.proofs.EndingDelete.{delete_keeps_locks}
use Rattle.dav_engine.proofs.EndingLemmas.{kept_locks_stand, kept_locks_stand_cut, reading_keeps_locks, put_keeps_locks, mkcol_keeps_locks}
use Rattle.dav_engine.proofs.LockPlans.{lock_keeps_locks}
use Rattle.dav_engine.proofs.PropertyPlans.{proppatch_keeps_locks}
use Rattle.dav_engine.proofs.UnlockPlans.{unlock_keeps_locks}
use Rattle.dav_engine.proofs.laws.isolation.kept_locks_stand.Goals as goal

pub returns-clause-stands : goal.returns-clause-stands
returns-clause-stands c = kept_locks_stand

pub returns-clause-cut : goal.returns-clause-cut
returns-clause-cut c = kept_locks_stand_cut

pub returns-clause-reading : goal.returns-clause-reading
returns-clause-reading c = reading_keeps_locks

pub returns-clause-put : goal.returns-clause-put
returns-clause-put c = put_keeps_locks

pub returns-clause-mkcol : goal.returns-clause-mkcol
returns-clause-mkcol c = mkcol_keeps_locks

pub returns-clause-delete : goal.returns-clause-delete
returns-clause-delete c = delete_keeps_locks

pub returns-clause-unlock : goal.returns-clause-unlock
returns-clause-unlock c = unlock_keeps_locks

pub returns-clause-lock : goal.returns-clause-lock
returns-clause-lock c = lock_keeps_locks

pub returns-clause-copy_move : goal.returns-clause-copy_move
returns-clause-copy_move c = copymove_keeps_locks

pub returns-clause-proppatch : goal.returns-clause-proppatch
returns-clause-proppatch c = proppatch_keeps_locks
