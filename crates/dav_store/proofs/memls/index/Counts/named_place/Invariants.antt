use Rattle.std.proofs.Common.{◌≡◌, ℕ, ◌<◌, ◌≤◌, ◌++◌, length, take, position, None}
use Rattle.dav_core.specs.Path.{names}
use Rattle.dav_core.specs.PathRef.{names_left}
use Rattle.dav_core.specs.Locks.{has_token_at}
use Rattle.dav_store.specs.Placed.{found}
use Rattle.dav_store.proofs.memls.index.Counts.named_place.Given as goal

-- the names so far lead to the node, where there are so many; and no shorter front has a lock with this token
abbrev pub invariant-loop-len : goal.invariant-loop-len
invariant-loop-len l =
    (take l.len (names l.path) ++ names_left l.left ≡ names l.path)
    × (l.len ≤ length (names l.path) → l.at ≡ found l.self (take l.len (names l.path)))
    × ((k : ℕ) → k < l.len → position (has_token_at l.token (take k (names l.path))) l.locks ≡ None)
