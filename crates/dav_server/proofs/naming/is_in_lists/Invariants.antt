-- The token is in all lists exactly where it is in those that are left.
use Rattle.std.proofs.Common.{◌≡◌, map, drop, bytes_eq}
use Rattle.std.specs.List.{list_any}
use Rattle.dav_headers.specs.If.{tokens_of}
use Rattle.dav_headers.specs.IfView.{list_value}
use Rattle.dav_server.proofs.naming.is_in_lists.Given as goal

abbrev pub invariant-loop-list : goal.invariant-loop-list
invariant-loop-list l =
    list_any (bytes_eq l.token) (tokens_of (map list_value (drop l.list-index l.lists)))
    ≡ list_any (bytes_eq l.token) (tokens_of (map list_value l.lists))
