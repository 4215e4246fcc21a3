use Rattle.std.proofs.Common.{◌≡◌, ◌+◌, drop}
use Rattle.dav_headers.specs.IfTokenMachine.{word_len}
use Rattle.dav_headers.proofs.if_header.tokens.word_len.Given as goal

abbrev pub invariant-loop-i : goal.invariant-loop-i
invariant-loop-i l = word_len (drop l.i l.text) + l.i ≡ word_len l.text
