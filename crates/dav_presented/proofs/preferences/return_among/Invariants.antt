use Rattle.std.proofs.Common.{◌≡◌, map, None}
use Rattle.std.specs.List.{find}
use Rattle.dav_headers.specs.Elements.{trimmed}
use Rattle.dav_presented.specs.Preferences.{is_return}
use Rattle.dav_presented.proofs.preferences.return_among.Given as goal

abbrev pub invariant-loop-element : goal.invariant-loop-element
invariant-loop-element l = find is_return (map trimmed (map (λ p. p.now) l.yielded)) ≡ None
