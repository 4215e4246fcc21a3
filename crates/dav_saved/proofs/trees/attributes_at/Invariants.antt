use Rattle.std.proofs.Common.{◌≡◌, ◌-◌, map}
use Rattle.dav_core.specs.ElementView.{attribute_bytes}
use Rattle.dav_saved.specs.Reading.{pair_at, many_at}
use Rattle.dav_saved.proofs.Loop.{with_front}
use Rattle.dav_saved.proofs.trees.attributes_at.Given as goal

abbrev pub invariant-loop : goal.invariant-loop
invariant-loop l = with_front (map attribute_bytes l.attributes.items) (many_at pair_at (l.count - l.counter) l.rest) ≡ many_at pair_at l.count l.bytes
