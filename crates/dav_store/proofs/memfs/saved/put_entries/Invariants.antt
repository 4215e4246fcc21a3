use Rattle.std.proofs.Common.{◌≡◌, ◌++◌, ℕ, drop}
use Rattle.std.specs.List.{flat_map, AllByRecursion}
use Rattle.dav_saved.specs.Spelling.{many}
use Rattle.dav_saved.specs.Parts.{AreAll, AreBoth, HasLength64}
use Rattle.dav_saved.specs.Worlds.{entry, AreWithin, IsSaveableNode}
use Rattle.dav_store.proofs.memfs.saved.put_entries.Given as goal

-- what is added so far, and which nodes can be saved
abbrev pub invariant-loop-path : goal.invariant-loop-path
invariant-loop-path l =
    (l.out.items ++ flat_map entry (drop l.path-index l.entries.nodes) ≡ l.fn.out.items ++ many entry l.entries.nodes)
    × ((levels : ℕ) → AllByRecursion (λ e. AreWithin levels e.1.properties) l.entries.nodes
    → AllByRecursion (AreBoth (AreAll HasLength64) (IsSaveableNode levels)) (drop l.path-index l.entries.nodes)
    → AllByRecursion (AreBoth (AreAll HasLength64) (IsSaveableNode levels)) l.entries.nodes)
