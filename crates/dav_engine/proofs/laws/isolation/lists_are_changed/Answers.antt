use Rattle.dav_engine.proofs.CopyChanges.{copymove_changes_list}
use Rattle.dav_engine.proofs.ListChangeLemmas.{lists_are_changed, lists_are_changed_cut, reading_changes_list, put_changes_list, mkcol_changes_list, delete_changes_list, unlock_changes_list}
use Rattle.dav_engine.proofs.LockChanges.{lock_changes_list}
use Rattle.dav_engine.proofs.PropertyPlans.{proppatch_changes_list}
use Rattle.dav_engine.proofs.laws.isolation.lists_are_changed.Goals as goal

pub returns-clause-changed : goal.returns-clause-changed
returns-clause-changed c = lists_are_changed

pub returns-clause-cut : goal.returns-clause-cut
returns-clause-cut c = lists_are_changed_cut

pub returns-clause-reading : goal.returns-clause-reading
returns-clause-reading c = reading_changes_list

pub returns-clause-put : goal.returns-clause-put
returns-clause-put c = put_changes_list

pub returns-clause-mkcol : goal.returns-clause-mkcol
returns-clause-mkcol c = mkcol_changes_list

pub returns-clause-delete : goal.returns-clause-delete
returns-clause-delete c = delete_changes_list

pub returns-clause-unlock : goal.returns-clause-unlock
returns-clause-unlock c = unlock_changes_list

pub returns-clause-lock : goal.returns-clause-lock
returns-clause-lock c = lock_changes_list

pub returns-clause-copy_move : goal.returns-clause-copy_move
returns-clause-copy_move c = copymove_changes_list

pub returns-clause-proppatch : goal.returns-clause-proppatch
returns-clause-proppatch c = proppatch_changes_list
