use Rattle.dav_engine.proofs.SparingCopy.{copymove_spares}
use Rattle.dav_engine.proofs.SparingPlans.{reading_spares, put_spares, mkcol_spares}
use Rattle.dav_engine.proofs.SparingDelete.{delete_spares}
use Rattle.dav_engine.proofs.SparingProperties.{proppatch_spares}
use Rattle.dav_engine.proofs.LockSparing.{lock_spares}
use Rattle.dav_engine.proofs.UnlockPlans.{unlock_spares}
use Rattle.dav_engine.proofs.laws.isolation.strangers_spare_what_is_locked.Goals as goal

pub returns-clause-reading : goal.returns-clause-reading
returns-clause-reading c = reading_spares

pub returns-clause-put : goal.returns-clause-put
returns-clause-put c = put_spares

pub returns-clause-mkcol : goal.returns-clause-mkcol
returns-clause-mkcol c = mkcol_spares

pub returns-clause-delete : goal.returns-clause-delete
returns-clause-delete c = delete_spares

pub returns-clause-unlock : goal.returns-clause-unlock
returns-clause-unlock c = unlock_spares

pub returns-clause-lock : goal.returns-clause-lock
returns-clause-lock c = lock_spares

pub returns-clause-copy_move : goal.returns-clause-copy_move
returns-clause-copy_move c = copymove_spares

pub returns-clause-proppatch : goal.returns-clause-proppatch
returns-clause-proppatch c = proppatch_spares
