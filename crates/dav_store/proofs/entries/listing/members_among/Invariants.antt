use Rattle.std.proofs.Common.{◌≡◌, map}
use Rattle.dav_core.specs.World.{is_folder_node}
use Rattle.dav_store.specs.Tree.{value_of}
use Rattle.dav_store.proofs.entries.listing.members_among.Given as goal

-- the children so far are listed
abbrev pub invariant-loop-key : goal.invariant-loop-key
invariant-loop-key l = l.list.items ≡ map (λ e. (e.0.items, is_folder_node (value_of l.tree e.1))) l.yielded
