use Rattle.std.proofs.Common.{◌≡◌, ◌++◌, ◌∷◌, map, drop, string_bytes}
use Rattle.std.specs.List.{flat_map}
use Rattle.dav_headers.specs.Elements.{joined}
use Rattle.dav_headers.proofs.elements.joined.Given as goal

abbrev pub invariant-loop-next : goal.invariant-loop-next
invariant-loop-next l =
    string_bytes l.text ++ flat_map (λ y. 44 ∷ 32 ∷ y) (map string_bytes (drop l.next-index l.rest))
    ≡ joined (map string_bytes l.texts)
