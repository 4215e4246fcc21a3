use Rattle.std.proofs.Common.{◌≡◌, ◌+◌, false, drop}
use Rattle.std.specs.Option.{option_map}
use Rattle.dav_headers.specs.IfTokenMachine.{inside_len}
use Rattle.dav_headers.proofs.if_header.tokens.inside_len.Given as goal

abbrev pub invariant-loop-i : goal.invariant-loop-i
invariant-loop-i l =
    option_map (λ n. n + l.i) (inside_len l.close l.quoted (drop l.i l.text)) ≡ inside_len l.close false l.text
