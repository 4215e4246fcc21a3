use Rattle.std.proofs.Common.{◌≡◌, drop, map}
use Rattle.dav_seen.specs.Names.{is_among}
use Rattle.dav_seen.proofs.names.is_among.Given as goal

abbrev pub invariant-loop-other : goal.invariant-loop-other
invariant-loop-other l = is_among (map (λ n. n.now) (drop l.other-index l.found)) l.name ≡ is_among (map (λ n. n.now) l.found) l.name
