use Rattle.std.proofs.Common.{map}
use Rattle.dav_headers.specs.Elements.{trimmed}
use Rattle.dav_headers.specs.Timeout.{AreTimeTypes}
use Rattle.dav_headers.proofs.timeout.time_types.Given as goal

abbrev pub invariant-loop-element : goal.invariant-loop-element
invariant-loop-element l = AreTimeTypes (map trimmed (map (λ p. p.now) l.yielded)) l.time_types.items
