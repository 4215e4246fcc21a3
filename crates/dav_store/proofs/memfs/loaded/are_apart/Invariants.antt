use Rattle.std.proofs.Common.{◌≡◌, ℕ, nat_eq, take}
use Rattle.std.specs.HashSet.{contains}
use Rattle.dav_store.specs.Loaded.{AreApart, is_taken}
use Rattle.dav_store.proofs.memfs.loaded.are_apart.Given as goal

-- the nodes so far have no number in common, and their numbers are those that are taken
abbrev pub invariant-loop-entry : goal.invariant-loop-entry
invariant-loop-entry l = AreApart (take l.entry-index l.list) × ((k : ℕ) → contains nat_eq l.taken k ≡ is_taken k (take l.entry-index l.list))
