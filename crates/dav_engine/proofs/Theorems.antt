-- What the proofs of the crates above rest on.
pub use Rattle.dav_engine.proofs.AlongsideCopy.{copymove_goes_along}
pub use Rattle.dav_engine.proofs.AlongsideDelete.{delete_goes_along}
pub use Rattle.dav_engine.proofs.AlongsideLock.{lock_goes_along}
pub use Rattle.dav_engine.proofs.AlongsideLaw.{alongside_agree, ran_plain}
pub use Rattle.dav_engine.proofs.IsolatedPlans.{holders, in_reach, in_side, only_lists, side_bind, side_require, side_lists, put_goes_along, mkcol_goes_along}
pub use Rattle.dav_engine.proofs.AlongsideProperties.{propfind_goes_along, proppatch_goes_along}
pub use Rattle.dav_engine.proofs.CallWorlds.{Did, stays, means, did, Kept, did_leave, kept_same, kept_on}
pub use Rattle.dav_engine.proofs.CopyChanges.{copymove_changes_list}
pub use Rattle.dav_engine.proofs.CopyHeaderLemmas.{IsPlace, place_by, place_cut, plain_other}
pub use Rattle.dav_engine.proofs.CopyMoveLemmas.{AnyCall, only_copy}
pub use Rattle.dav_engine.proofs.CopyEnds.{refused_copymove_leaves_all}
pub use Rattle.dav_engine.proofs.CopyWorld.{only_copy_allowed, copymove_is_proper}
pub use Rattle.dav_engine.proofs.CutPlans.{cut_refused, cut_ask, cut_look, cut_keep}
pub use Rattle.dav_engine.proofs.DeletedWorlds.{refused_delete_leaves_all}
pub use Rattle.dav_engine.proofs.DeleteWorld.{only_delete_allowed, only_removal, delete_is_proper}
pub use Rattle.dav_engine.proofs.EndingCopy.{copymove_keeps_locks}
pub use Rattle.dav_engine.proofs.EndingDelete.{delete_keeps_locks}
pub use Rattle.dav_engine.proofs.EndingPropfind.{answered_below, answered_itself}
pub use Rattle.dav_engine.proofs.EndingLemmas.{kept_locks_stand, kept_locks_stand_cut, reading_keeps_locks, put_keeps_locks, mkcol_keeps_locks}
pub use Rattle.dav_engine.proofs.Following.{follows_done, follows_ask, follows_on, follows_then, follows_err, follows_up_to, follows_out}
pub use Rattle.dav_engine.proofs.GrantLemmas.{shared_guards, folders_are_above}
pub use Rattle.dav_engine.proofs.GuardLemmas.{carried}
pub use Rattle.dav_engine.proofs.GuardedFolders.{free_for_is}
pub use Rattle.dav_engine.proofs.HrefLemmas.{properties_lead_back, responses_lead_back, bare}
pub use Rattle.dav_engine.proofs.ListChangeLemmas.{lists_are_changed, lists_are_changed_cut, changes_keep_shared, changes_bring_tokens, tokens_after_all, changes_join, changes_reading, reading_changes_list, put_changes_list, mkcol_changes_list, delete_changes_list, unlock_changes_list}
pub use Rattle.dav_engine.proofs.LockChanges.{lock_changes_list}
pub use Rattle.dav_engine.proofs.LockPlans.{only_asked, only_token, lock_is_proper, lock_keeps_locks}
pub use Rattle.dav_engine.proofs.LockSparing.{lock_spares}
pub use Rattle.dav_engine.proofs.LockWorlds.{lock_grants, lock_refreshes, refused_lock_leaves_all, unrefused_lock_leaves_all}
pub use Rattle.dav_engine.proofs.LockTokenLemmas.{last_is, one_lock_token, token_said}
pub use Rattle.dav_engine.proofs.ListingsTold.{listings_are_whole}
pub use Rattle.dav_engine.proofs.NumberLemmas.{spare_numbers_suffice}
pub use Rattle.dav_engine.proofs.OnePlanLemmas.{one_conditions, one_put_plan, one_mkcol_plan, one_delete_plan, one_unlock_plan, one_lock_plan, one_place, one_copymove_plan, one_propfind_plan, one_proppatch_plan}
pub use Rattle.dav_engine.proofs.OptionsLemmas.{options_only_reads, options_is_proper, options_goes_along}
pub use Rattle.dav_engine.proofs.PatchedWorlds.{proppatch_makes_all_or_none, refused_proppatch_leaves_all}
pub use Rattle.dav_engine.proofs.PlainLemmas.{open_names}
pub use Rattle.dav_engine.proofs.PlanLemmas.{ran_same, ran_unset, Comes, comes}
pub use Rattle.dav_engine.proofs.PropertyPlans.{propfind_only_reads, propfind_is_proper, proppatch_is_proper, proppatch_keeps_locks, proppatch_changes_list}
pub use Rattle.dav_engine.proofs.PutWorld.{only_guarded, only_free, look_reads, only_put_allowed, only_mkcol_allowed, IsLook, looks, only_conditions, put_is_proper, mkcol_is_proper, create_only_leaves_all, creates_only}
pub use Rattle.dav_engine.proofs.RefusalLemmas.{answered_or_refused, answered_is_run, refused_is_run, not_both, refused_behind}
pub use Rattle.dav_engine.proofs.RemovalReports.{Gives, gives_done, gives_ask, gives_look, gives_keep, gives_removal}
pub use Rattle.dav_engine.proofs.SomePlanLemmas.{some_conditions, some_put_plan, some_mkcol_plan, some_delete_plan, some_unlock_plan, some_lock_plan, some_copymove_plan, some_propfind_plan, some_proppatch_plan}
pub use Rattle.dav_engine.proofs.SparingCopy.{copymove_spares}
pub use Rattle.dav_engine.proofs.SparingDelete.{delete_spares}
pub use Rattle.dav_engine.proofs.SparingLaw.{sparing_leaves_covered, sparing_leaves_covered_cut, sparing_leaves_inside}
pub use Rattle.dav_engine.proofs.SparingPlans.{reading_spares, put_spares, mkcol_spares}
pub use Rattle.dav_engine.proofs.SparingProperties.{proppatch_spares}
pub use Rattle.dav_engine.proofs.StoredLemmas.{patched_is_kept, kept_is_told}
pub use Rattle.dav_engine.proofs.UnlockPlans.{unlock_is_proper, unlock_ends_lock, refused_unlock_leaves_all, unlock_spares, unlock_keeps_locks, unlock_goes_along}
pub use Rattle.dav_engine.proofs.UnrefusedListings.{unrefused_runs_list}
pub use Rattle.dav_engine.proofs.WorldPlans.{only_reads, reading_leaves, ran_split, ran_outcome, Only, only_done, only_ask, only_look, only_then, only_bind, only_require, only_proper, proper_keeps}
pub use Rattle.dav_engine.proofs.WrongPlans.{put_without_a_look, proppatch_without_a_look, unprefixed_leads_nowhere, late_look_spares_nothing, mkcol_by_parent_spares_nothing, lock_above_is_no_reason, numbers_are_not_told, lock_unasked_leaves_no_guard, lock_of_depth_0_is_no_guard}
pub use Rattle.dav_engine.proofs.MembersLaw.{plans_leave_members, plans_leave_members_cut, parent_free_is_no_member}
pub use Rattle.dav_engine.proofs.MembersPlans.{reading_leaves_members, put_leaves_members, mkcol_leaves_members, delete_leaves_members, copymove_leaves_members, unlock_leaves_members, lock_leaves_members, proppatch_leaves_members}
