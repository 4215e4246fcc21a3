use Rattle.std.proofs.Common.{◌≡◌, ◌-◌}
use Rattle.std.specs.List.{AllByRecursion}
use Rattle.dav_saved.specs.Reading.{many_at}
use Rattle.dav_saved.specs.Worlds.{entry_at}
use Rattle.dav_saved.proofs.Loop.{with_front}
use Rattle.dav_store.specs.Loaded.{IsFit}
use Rattle.dav_store.proofs.memfs.loaded.entries_of.Given as goal

-- what was read so far with what is still read is all, and it may stand in the world
abbrev pub invariant-loop : goal.invariant-loop
invariant-loop l =
    (with_front l.list.items (many_at (entry_at l.levels) (l.count - l.counter) l.rest) ≡ many_at (entry_at l.levels) l.count l.bytes) × AllByRecursion (IsFit l.next) l.list.items
