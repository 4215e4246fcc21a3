use Rattle.std.proofs.Common.{◌≡◌, ◌&&◌, ◌++◌, take}
use Rattle.std.specs.List.{filter}
use Rattle.dav_core.specs.Path.{names, is_same_path}
use Rattle.dav_core.specs.Locks.{covers}
use Rattle.dav_store.proofs.memls.push_covering.Given as goal

-- what was found so far
abbrev pub invariant-loop-kept : goal.invariant-loop-kept
invariant-loop-kept l =
    l.found.items ≡ l.initial.found.items ++ filter (λ m. is_same_path (names m.path) (take l.len (names l.path)) && covers m (names l.path)) (take l.kept-index l.locks)
