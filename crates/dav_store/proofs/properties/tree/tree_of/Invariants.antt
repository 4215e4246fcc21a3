use Rattle.std.proofs.Common.{◌≡◌, take}
use Rattle.dav_store.proofs.properties.tree.tree_of.Given as goal

-- the properties so far are in the tree
abbrev pub invariant-loop-key : goal.invariant-loop-key
invariant-loop-key l = l.tree.entries ≡ take l.key-index l.entries
