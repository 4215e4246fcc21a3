use Rattle.std.proofs.Common.{◌≡◌, ◌-◌}
use Rattle.std.specs.List.{AllByRecursion}
use Rattle.dav_saved.specs.Reading.{sized_at, many_at}
use Rattle.dav_saved.proofs.Loop.{with_front}
use Rattle.dav_store.specs.Loaded.{IsNameOfBytes}
use Rattle.dav_store.proofs.names.saved.names_at.Given as goal

-- what was read so far with what is still read is all, and it is names
abbrev pub invariant-loop : goal.invariant-loop
invariant-loop l =
    (with_front l.names.items (many_at sized_at (l.count - l.counter) l.rest) ≡ many_at sized_at l.count l.bytes) × AllByRecursion IsNameOfBytes l.names.items
