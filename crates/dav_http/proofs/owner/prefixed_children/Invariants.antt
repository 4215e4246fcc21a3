use Rattle.std.proofs.Common.{◌≡◌, map}
use Rattle.dav_core.specs.ElementView.{node_tree}
use Rattle.dav_http.specs.Owners.{prefixed_child}
use Rattle.dav_http.proofs.owner.prefixed_children.Given as goal

abbrev pub invariant-loop-child : goal.invariant-loop-child
invariant-loop-child l = map node_tree l.prefixed.items ≡ map prefixed_child (map node_tree l.yielded)
