use Rattle.std.proofs.Common.{List, map}
use Rattle.dav_headers.specs.Elements.{trimmed}
use Rattle.dav_headers.specs.Timeout.{AreTimeTypes}
use Rattle.dav_headers.specs.declared.timeout.DavTimeout.{DavTimeout}
use Rattle.dav_headers.proofs.timeout.are_time_types.Given as goal

abbrev pub invariant-loop-element : goal.invariant-loop-element
invariant-loop-element l = (ts : List DavTimeout) × AreTimeTypes (map trimmed (map (λ p. p.now) l.yielded)) ts
