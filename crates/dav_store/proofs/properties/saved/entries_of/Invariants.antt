use Rattle.std.proofs.Common.{◌≡◌, ◌-◌}
use Rattle.dav_saved.specs.Reading.{many_at}
use Rattle.dav_saved.specs.Worlds.{property_at}
use Rattle.dav_saved.proofs.Loop.{with_front}
use Rattle.dav_store.proofs.properties.saved.entries_of.Given as goal

-- what was read so far with what is still read is all
abbrev pub invariant-loop : goal.invariant-loop
invariant-loop l = with_front l.entries.items (many_at (property_at l.levels) (l.count - l.counter) l.rest) ≡ many_at (property_at l.levels) l.count l.bytes
