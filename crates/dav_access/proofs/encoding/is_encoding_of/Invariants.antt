use Rattle.std.proofs.Common.{◌≡◌, ◌++◌, take}
use Rattle.std.specs.List.{flat_map}
use Rattle.dav_access.specs.Crypt.{bits_at, four_digits, groups}
use Rattle.dav_access.proofs.encoding.is_encoding_of.Given as goal

abbrev pub invariant-loop-group : goal.invariant-loop-group
invariant-loop-group l =
    (l.group-items ≡ groups) × (l.text ≡ flat_map (λ g. four_digits (bits_at l.digest g)) (take l.group-index groups) ++ l.rest)
