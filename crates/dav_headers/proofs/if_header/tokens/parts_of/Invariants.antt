use Rattle.std.proofs.Common.{map, length}
use Rattle.dav_headers.specs.IfParts.{part_view}
use Rattle.dav_headers.proofs.IfTokenLemmas.{ReadSoFar}
use Rattle.dav_headers.proofs.if_header.tokens.parts_of.Given as goal

abbrev pub invariant-loop-rest : goal.invariant-loop-rest
invariant-loop-rest l = ReadSoFar l.text l.rest (map part_view l.parts.items)

abbrev pub decreases-loop-rest : goal.decreases-loop-rest
decreases-loop-rest l = length l.rest
