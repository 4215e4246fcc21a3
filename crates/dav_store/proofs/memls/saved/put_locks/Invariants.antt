use Rattle.std.proofs.Common.{◌≡◌, ◌++◌, ℕ, drop}
use Rattle.std.specs.List.{flat_map, AllByRecursion}
use Rattle.dav_saved.specs.Parts.{IsWithin}
use Rattle.dav_saved.specs.Locks.{lock, locks, IsSaveableLock}
use Rattle.dav_store.proofs.memls.saved.put_locks.Given as goal

-- what is added so far, and which locks can be saved
abbrev pub invariant-loop-kept : goal.invariant-loop-kept
invariant-loop-kept l =
    (l.out.items ++ flat_map lock (drop l.kept-index l.list) ≡ l.fn.out.items ++ locks l.list)
    × ((levels : ℕ) → AllByRecursion (λ k. IsWithin levels k.owner) l.list
    → AllByRecursion (IsSaveableLock levels) (drop l.kept-index l.list) → AllByRecursion (IsSaveableLock levels) l.list)
