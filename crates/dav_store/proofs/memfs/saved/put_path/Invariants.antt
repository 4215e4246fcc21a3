use Rattle.std.proofs.Common.{◌≡◌, ◌++◌, drop}
use Rattle.std.specs.List.{flat_map, AllByRecursion}
use Rattle.dav_saved.specs.Spelling.{sized}
use Rattle.dav_saved.specs.Parts.{HasLength64}
use Rattle.dav_saved.specs.Worlds.{path}
use Rattle.dav_store.proofs.memfs.saved.put_path.Given as goal

-- what is added so far, and which names can be saved
abbrev pub invariant-loop-name : goal.invariant-loop-name
invariant-loop-name l =
    (l.out.items ++ flat_map sized (drop l.name-index l.names) ≡ l.fn.out.items ++ path l.names)
    × (AllByRecursion HasLength64 (drop l.name-index l.names) → AllByRecursion HasLength64 l.names)
