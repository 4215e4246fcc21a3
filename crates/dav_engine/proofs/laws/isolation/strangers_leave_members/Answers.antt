use Rattle.dav_engine.proofs.MembersLaw.{plans_leave_members, plans_leave_members_cut, parent_free_is_no_member}
use Rattle.dav_engine.proofs.MembersPlans.{reading_leaves_members, put_leaves_members, mkcol_leaves_members, delete_leaves_members, copymove_leaves_members, unlock_leaves_members, lock_leaves_members, proppatch_leaves_members}
use Rattle.dav_engine.proofs.laws.isolation.strangers_leave_members.Goals as goal

pub returns-clause-stay : goal.returns-clause-stay
returns-clause-stay c = plans_leave_members

pub returns-clause-cut : goal.returns-clause-cut
returns-clause-cut c = plans_leave_members_cut

pub returns-clause-parent : goal.returns-clause-parent
returns-clause-parent c = parent_free_is_no_member

pub returns-clause-reading : goal.returns-clause-reading
returns-clause-reading c = reading_leaves_members

pub returns-clause-put : goal.returns-clause-put
returns-clause-put c = put_leaves_members

pub returns-clause-mkcol : goal.returns-clause-mkcol
returns-clause-mkcol c = mkcol_leaves_members

pub returns-clause-delete : goal.returns-clause-delete
returns-clause-delete c = delete_leaves_members

pub returns-clause-copy_move : goal.returns-clause-copy_move
returns-clause-copy_move c = copymove_leaves_members

pub returns-clause-unlock : goal.returns-clause-unlock
returns-clause-unlock c = unlock_leaves_members

pub returns-clause-lock : goal.returns-clause-lock
returns-clause-lock c = lock_leaves_members

pub returns-clause-proppatch : goal.returns-clause-proppatch
returns-clause-proppatch c = proppatch_leaves_members
