use Rattle.std.proofs.Common.{◌≡◌, map}
use Rattle.dav_core.specs.ElementView.{node_tree}
use Rattle.dav_presented.specs.Quota.{more_in_found}
use Rattle.dav_presented.proofs.quota.all_in_response.Given as goal

abbrev pub invariant-loop-child : goal.invariant-loop-child
invariant-loop-child l = map node_tree l.nodes.items ≡ map (more_in_found l.more) (map node_tree l.yielded)
