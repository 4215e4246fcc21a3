use Rattle.std.proofs.Common.{◌≡◌, ◌++◌, ℕ, drop}
use Rattle.std.specs.List.{flat_map, AllByRecursion}
use Rattle.dav_saved.specs.Spelling.{many}
use Rattle.dav_saved.specs.Trees.{IsPair}
use Rattle.dav_saved.specs.Parts.{AreBoth, IsValue}
use Rattle.dav_saved.specs.Worlds.{property, AreWithin}
use Rattle.dav_store.proofs.properties.saved.put_entries.Given as goal

-- what is added so far, and which properties can be saved
abbrev pub invariant-loop-entry : goal.invariant-loop-entry
invariant-loop-entry l =
    (l.out.items ++ flat_map property (drop l.entry-index l.entries) ≡ l.fn.out.items ++ many property l.entries)
    × ((levels : ℕ) → AreWithin levels l.entries
    → AllByRecursion (AreBoth IsPair (IsValue levels)) (drop l.entry-index l.entries) → AllByRecursion (AreBoth IsPair (IsValue levels)) l.entries)
