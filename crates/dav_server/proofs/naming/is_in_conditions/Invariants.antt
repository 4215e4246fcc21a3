-- The token is in all conditions exactly where it is in those that are left.
use Rattle.std.proofs.Common.{◌≡◌, map, drop, bytes_eq}
use Rattle.std.specs.List.{list_any}
use Rattle.dav_headers.specs.If.{tokens_among}
use Rattle.dav_headers.specs.IfView.{condition_value}
use Rattle.dav_server.proofs.naming.is_in_conditions.Given as goal

abbrev pub invariant-loop-condition : goal.invariant-loop-condition
invariant-loop-condition l =
    list_any (bytes_eq l.token) (tokens_among (map condition_value (drop l.condition-index l.conditions)))
    ≡ list_any (bytes_eq l.token) (tokens_among (map condition_value l.conditions))
