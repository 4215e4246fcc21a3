use Rattle.std.proofs.Common.{◌≡◌, drop}
use Rattle.dav_headers.specs.IfTokenMachine.{skip}
use Rattle.dav_headers.proofs.if_header.tokens.skip.Given as goal

abbrev pub invariant-loop-i : goal.invariant-loop-i
invariant-loop-i l = skip (drop l.i l.text) ≡ skip l.text
