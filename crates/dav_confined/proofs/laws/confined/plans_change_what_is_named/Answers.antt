use Rattle.dav_confined.proofs.ConfinedPlans.{copymove_spares_others, delete_spares_others, lock_spares_others, mkcol_spares_others, proppatch_spares_others, put_spares_others, reading_spares_paths, unlock_spares_paths}
use Rattle.dav_confined.proofs.laws.confined.plans_change_what_is_named.Goals as goal

pub returns-clause-reading : goal.returns-clause-reading
returns-clause-reading c = reading_spares_paths

pub returns-clause-put : goal.returns-clause-put
returns-clause-put c = put_spares_others

pub returns-clause-mkcol : goal.returns-clause-mkcol
returns-clause-mkcol c = mkcol_spares_others

pub returns-clause-proppatch : goal.returns-clause-proppatch
returns-clause-proppatch c = proppatch_spares_others

pub returns-clause-lock : goal.returns-clause-lock
returns-clause-lock c = lock_spares_others

pub returns-clause-unlock : goal.returns-clause-unlock
returns-clause-unlock c = unlock_spares_paths

pub returns-clause-delete : goal.returns-clause-delete
returns-clause-delete c = delete_spares_others

pub returns-clause-copy_move : goal.returns-clause-copy_move
returns-clause-copy_move c = copymove_spares_others
