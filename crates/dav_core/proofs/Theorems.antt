-- What the proofs of the crates above rest on.
pub use Rattle.dav_core.proofs.AddedLemmas.{adds_segment, slash_adds_no_name, member_is_no_star, few_names, name_is_segment, names_joined}
pub use Rattle.dav_core.proofs.AskingLemmas.{answered_as, errors_leave_worlds}
pub use Rattle.dav_core.proofs.CarriedLemmas.{renamed_world, stays-moved, without_keeps}
pub use Rattle.dav_core.proofs.CoverLemmas.{some_held, grantable_by_tests, free_by_tests}
pub use Rattle.dav_core.proofs.CutLemmas.{cut_keeps_names}
pub use Rattle.dav_core.proofs.CutOnce.{one_cut}
pub use Rattle.dav_core.proofs.FollowLemmas.{numbers_look_back, made_stands_there, nodes_stay, opened_stands}
pub use Rattle.dav_core.proofs.FrontLemmas.{from_rest, name-itself, outside, parent-append, rest_after-append, same_name, shape}
pub use Rattle.dav_core.proofs.KeptLemmas.{calls_keep_worlds, numbers_rise}
pub use Rattle.dav_core.proofs.ListedLocks.{unlock_takes_one, refresh_changes_one}
pub use Rattle.dav_core.proofs.LockLemmas.{free_is_no_conflict, granted_can_be_unlocked, taken_back}
pub use Rattle.dav_core.proofs.MadeLemmas.{change_made, made_stands, stands_made, passed}
pub use Rattle.dav_core.proofs.MemberLemmas.{lists_what_stands, above, members_rise, members_same, members_stand_below, nothing_below, sorted-members}
pub use Rattle.dav_core.proofs.NamedLemmas.{named_once}
pub use Rattle.dav_core.proofs.NodesAfter.{find-prune, find-moved, adjust_keeps_order, left_true, right_true, sorted-prune, touched_is_modified, both_true, sorted-graft, sorted-moved}
pub use Rattle.dav_core.proofs.NodesLemmas.{find-adjust, find-put_node, path-itself, same_path, turned, path_exact, path_total, sorted-change, sorted-put_node}
pub use Rattle.dav_core.proofs.OutcomeLemmas.{read_or_refused}
pub use Rattle.dav_core.proofs.ParentLemmas.{names_parent, one_parent, parent_names}
pub use Rattle.dav_core.proofs.SharedLemmas.{granted_are_shared, unlocked_are_shared, refreshed_are_shared, deleted_are_shared, none_are_shared, All-without_first, All-change_first, CoveringWay, covering_way}
pub use Rattle.dav_core.proofs.StepLemmas.{went_on, found, left, went_if}
pub use Rattle.dav_core.proofs.TargetLemmas.{Leaves-names, names_kept, Reads-one, Reads-valid, Reads-allowed, refused_once}
pub use Rattle.dav_core.proofs.UrlLemmas.{Reads-bytes, names_again}
pub use Rattle.dav_core.proofs.WorldLemmas.{empty_is_world}
