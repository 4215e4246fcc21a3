use Rattle.std.proofs.Common.{◌≡◌, ◌++◌, ◌-◌}
use Rattle.dav_core.specs.Path.{Path, names}
use Rattle.dav_core.specs.PathRef.{names_left}
use Rattle.dav_store.specs.Placed.{found}
use Rattle.dav_store.specs.LockIndex.{Key, count_of, times, keys_from, path_keys}
use Rattle.dav_store.proofs.memls.index.Counts.lower_along.Given as goal

-- the names so far lead to the node; and what each key has, without what it is still to lose, is what it is to have
abbrev pub invariant-loop-name : goal.invariant-loop-name
invariant-loop-name l =
    (q : Path) × (q ++ names_left l.name-iterator ≡ names l.path) × (l.at ≡ found l.self q)
    × ((k : Key) → count_of l.self k - times k (keys_from l.deep q (names_left l.name-iterator))
    ≡ count_of l.initial.self k - times k (path_keys l.deep (names l.path)))
