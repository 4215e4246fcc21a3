use Rattle.std.proofs.Common.{map, All}
use Rattle.dav_headers.specs.Elements.{trimmed}
use Rattle.dav_headers.specs.Language.{IsLanguage}
use Rattle.dav_headers.proofs.language.are_languages.Given as goal

abbrev pub invariant-loop-element : goal.invariant-loop-element
invariant-loop-element l = All IsLanguage (map trimmed (map (λ p. p.now) l.yielded))
