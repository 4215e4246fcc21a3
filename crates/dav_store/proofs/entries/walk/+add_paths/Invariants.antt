use Rattle.std.proofs.Common.{◌≡◌, ◌++◌, ◌∷◌, length}
use Rattle.std.specs.Vec.Iter.{into_iter_items, into_iter_len}
use Rattle.dav_core.specs.World.{members}
use Rattle.dav_store.specs.Subtrees.{under, blocks, paths_of}
use Rattle.dav_store.proofs.entries.walk.+add_paths.Given as goal

-- how many nodes are at the path and below it
abbrev pub decreases-add_paths : goal.decreases-add_paths
decreases-add_paths l = length (under l.path.now l.entries.now.nodes)

-- the path, and the paths of what is at and below each member so far; with those that are left they are all
abbrev pub invariant-loop-name : goal.invariant-loop-name
invariant-loop-name l =
    (l.list.items ≡ l.fn.list.items ++ (l.path ∷ paths_of (blocks l.path l.entries.nodes l.yielded)))
    × ((l.yielded ++ into_iter_items l.name-iterator ≡ members l.path l.entries.nodes)
    × (into_iter_len l.name-iterator ≡ length (into_iter_items l.name-iterator)))
