use Rattle.std.proofs.Common.{◌≡◌, ◌&&◌, take}
use Rattle.std.specs.List.{filter, flat_map}
use Rattle.dav_core.specs.Path.{names, is_same_path, fronts}
use Rattle.dav_core.specs.Locks.{covers}
use Rattle.dav_store.proofs.memls.discover_in.Given as goal

-- the locks on the fronts so far
abbrev pub invariant-loop-len : goal.invariant-loop-len
invariant-loop-len l =
    l.found.items ≡ flat_map (λ q. filter (λ m. is_same_path (names m.path) q && covers m (names l.path)) l.locks) (take l.len (fronts (names l.path)))
