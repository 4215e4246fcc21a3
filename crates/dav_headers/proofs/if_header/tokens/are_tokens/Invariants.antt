use Rattle.std.proofs.Common.{List, length}
use Rattle.dav_headers.specs.IfTokens.{Token}
use Rattle.dav_headers.proofs.IfTokenLemmas.{ReadSoFar}
use Rattle.dav_headers.proofs.if_header.tokens.are_tokens.Given as goal

abbrev pub invariant-loop-rest : goal.invariant-loop-rest
invariant-loop-rest l = (ts : List Token) × ReadSoFar l.text l.rest ts

abbrev pub decreases-loop-rest : goal.decreases-loop-rest
decreases-loop-rest l = length l.rest
