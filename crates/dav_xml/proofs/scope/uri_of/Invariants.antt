use Rattle.std.proofs.Common.{◌≡◌, drop, map, option_map, None}
use Rattle.dav_xml.specs.Scopes.{pair_bytes, uri_after}
use Rattle.dav_xml.proofs.scope.uri_of.Given as goal

abbrev pub invariant-loop-declaration : goal.invariant-loop-declaration
invariant-loop-declaration l = uri_after (option_map (λ u. u.now) l.found) l.prefix (map pair_bytes (drop l.declaration-index l.scope)) ≡ uri_after None l.prefix (map pair_bytes l.scope)
