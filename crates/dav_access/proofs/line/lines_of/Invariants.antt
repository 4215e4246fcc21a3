use Rattle.std.proofs.Common.{◌≡◌, All, map}
use Rattle.std.specs.Str.{IsUtf8}
use Rattle.dav_access.specs.RulesText.{words_of}
use Rattle.dav_access.proofs.line.lines_of.Given as goal

abbrev pub invariant-loop-line : goal.invariant-loop-line
invariant-loop-line l = (l.lines.items ≡ map words_of (map (λ x. x.now) l.yielded)) × All (All IsUtf8) l.lines.items
