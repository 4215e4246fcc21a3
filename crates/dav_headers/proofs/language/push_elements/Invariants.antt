use Rattle.std.proofs.Common.{◌≡◌, ◌++◌, map, string_bytes}
use Rattle.dav_headers.specs.Elements.{trimmed}
use Rattle.dav_headers.proofs.language.push_elements.Given as goal

abbrev pub invariant-loop-element : goal.invariant-loop-element
invariant-loop-element l =
    map string_bytes l.items.items
    ≡ map string_bytes l.initial.items.items ++ map trimmed (map (λ p. p.now) l.yielded)
