use Rattle.std.proofs.Common.{◌≡◌, ◌+◌, length, take}
use Rattle.dav_store.specs.Loaded.{HaveFolders}
use Rattle.dav_store.proofs.memfs.loaded.tree_of.Given as goal

-- the nodes so far are in the tree, each in a folder
abbrev pub invariant-loop-path : goal.invariant-loop-path
invariant-loop-path l =
    (l.entries ≡ record { nodes = take (length l.yielded + 1) l.fn.list.items; last = length l.yielded + 1 })
    × HaveFolders l.fn.list.items (take (length l.yielded + 1) l.fn.list.items)
