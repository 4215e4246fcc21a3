use Rattle.std.proofs.Common.{◌≡◌, ◌++◌, take}
use Rattle.std.specs.List.{flat_map}
use Rattle.dav_access.proofs.logins.Logins.known_bytes.Given as goal

abbrev pub invariant-loop-digest : goal.invariant-loop-digest
invariant-loop-digest l =
    (l.digest-items ≡ l.self.right) × (l.bytes.items ≡ l.self.salt ++ flat_map (λ d. d) (take l.digest-index l.self.right))
