use Rattle.std.proofs.Common.{map}
use Rattle.percent_encoding.specs.Percent.{percent_decode}
use Rattle.dav_core.specs.Buffer.{Kept}
use Rattle.dav_core.proofs.davpath.reading.read_names.Given as goal

abbrev pub invariant-loop-piece : goal.invariant-loop-piece
invariant-loop-piece l = Kept (map percent_decode (map (λ p. p.now) l.yielded)) l.buf.items
