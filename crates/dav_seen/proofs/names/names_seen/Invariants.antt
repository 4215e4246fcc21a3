use Rattle.std.proofs.Common.{◌≡◌, drop, map}
use Rattle.std.specs.Option.{option_copied}
use Rattle.dav_core.specs.Path.{names}
use Rattle.dav_seen.specs.Names.{names_after, names_seen}
use Rattle.dav_seen.proofs.names.names_seen.Given as goal

abbrev pub invariant-loop-grant : goal.invariant-loop-grant
invariant-loop-grant l =
    names_after (option_copied l.who) (names l.path) (map (λ n. n.now) l.found.items) (drop l.grant-index l.grants)
    ≡ names_seen l.rules (option_copied l.who) (names l.path)
