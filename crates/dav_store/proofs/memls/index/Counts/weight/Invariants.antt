use Rattle.std.proofs.Common.{◌≡◌, ◌++◌, Some, ◌+◌}
use Rattle.dav_core.specs.Path.{Path, names}
use Rattle.dav_core.specs.PathRef.{names_left}
use Rattle.dav_store.specs.Placed.{found}
use Rattle.dav_store.specs.LockIndex.{count_of, weight_from, weight}
use Rattle.dav_store.proofs.memls.index.Counts.weight.Given as goal

-- the names so far lead to the node; and what was counted, with what the names that are left weigh, is the whole weight
abbrev pub invariant-loop-name : goal.invariant-loop-name
invariant-loop-name l =
    (q : Path) × (q ++ names_left l.name-iterator ≡ names l.path) × (found l.self q ≡ Some l.at)
    × (l.weight + weight_from (count_of l.self) l.deep q (names_left l.name-iterator)
    ≡ weight (count_of l.self) l.deep (names l.path))
